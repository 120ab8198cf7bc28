use Rattle.std.proofs.Common.{◌≡◌}
use Rattle.lf_classes.proofs.universe.classes_of.Given as goal

abbrev pub invariant-loop-set : goal.invariant-loop-set
invariant-loop-set l = l.named ≡ l.yielded
