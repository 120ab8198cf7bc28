use Rattle.std.proofs.Common.{◌≡◌, ℕ, List, take}
use Rattle.lf_rounds.specs.Sums.{sum_of_rows}
use Rattle.lf_rounds.specs.views.Standings.{AreRowSums}
use Rattle.lf_rounds.proofs.sums.sum_at.Given as goal

abbrev pub invariant-loop-number : goal.invariant-loop-number
invariant-loop-number l = (wide : ℕ) (words : List ℕ) → AreRowSums wide words l.sums → l.all ≡ sum_of_rows wide words (take l.number-index l.numbers)
