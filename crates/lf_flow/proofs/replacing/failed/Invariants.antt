use Rattle.std.proofs.Common.{◌+◌, ◌||◌, eqb, false, get_or, length, not}
use Rattle.lf_flow.specs.views.ClassSets.{IsSet}
use Rattle.lf_flow.proofs.replacing.failed.Given as goal

abbrev pub invariant-loop-class : goal.invariant-loop-class
invariant-loop-class l = IsSet l.class (λ class. eqb (class + 1) (length l.matched) || not (get_or l.matched class false)) l.on.items
