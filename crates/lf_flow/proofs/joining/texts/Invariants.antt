use Rattle.std.proofs.Common.{eqb, cond}
use Rattle.lf_flow.specs.views.ClassSets.{IsSet}
use Rattle.lf_flow.proofs.joining.texts.Given as goal

abbrev pub invariant-loop-class : goal.invariant-loop-class
invariant-loop-class l = IsSet l.class (λ class. cond (eqb class 0) l.empty l.some) l.on.items
