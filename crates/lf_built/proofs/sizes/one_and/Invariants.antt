use Rattle.std.proofs.Common.{◌≡◌, ◌+◌, sum, take}
use Rattle.lf_built.proofs.sizes.one_and.Given as goal

abbrev pub invariant-loop-size : goal.invariant-loop-size
invariant-loop-size l = l.count ≡ sum (take l.size-index l.sizes) + 1
