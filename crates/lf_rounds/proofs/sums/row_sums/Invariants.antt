use Rattle.std.proofs.Common.{◌≡◌, length}
use Rattle.lf_rounds.specs.views.Standings.{AreRowSums}
use Rattle.lf_rounds.proofs.sums.row_sums.Given as goal

abbrev pub invariant-loop-k : goal.invariant-loop-k
invariant-loop-k l = record { len : length l.sums ≡ l.k; sums : AreRowSums l.width l.words l.sums }
