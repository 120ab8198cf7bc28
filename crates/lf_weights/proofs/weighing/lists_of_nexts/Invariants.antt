use Rattle.std.proofs.Common.{◌≡◌, take}
use Rattle.lf_weights.proofs.weighing.lists_of_nexts.Given as goal

abbrev pub invariant-loop-number : goal.invariant-loop-number
invariant-loop-number l = l.lists ≡ take l.number l.components.nexts
