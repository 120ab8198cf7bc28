use Rattle.std.proofs.Common.{◌+◌, ◌&&◌, false, get_or}
use Rattle.lf_classes.proofs.Puts.{ArePut}
use Rattle.lf_classes.proofs.bits.narrow.Given as goal

abbrev pub invariant-loop-k : goal.invariant-loop-k
invariant-loop-k l = ArePut (λ k. get_or l.initial.bits (l.from + k) false && get_or l.on k false) l.initial.bits l.bits l.from l.k
