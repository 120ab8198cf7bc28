use Rattle.std.proofs.Common.{◌+◌, ◌&&◌, eqb}
use Rattle.lf_flow.specs.views.ClassSets.{IsSet}
use Rattle.lf_flow.proofs.replacing.unread.Given as goal

abbrev pub invariant-loop-class : goal.invariant-loop-class
invariant-loop-class l = IsSet l.class (λ class. eqb (class + 1) l.count && l.other) l.on.items
