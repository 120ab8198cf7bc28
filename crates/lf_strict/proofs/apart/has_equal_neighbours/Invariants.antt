use Rattle.lf_strict.proofs.Times.{AreOthersBefore}
use Rattle.lf_strict.proofs.apart.has_equal_neighbours.Given as goal

abbrev pub invariant-loop-k : goal.invariant-loop-k
invariant-loop-k l = AreOthersBefore l.sorted l.k
