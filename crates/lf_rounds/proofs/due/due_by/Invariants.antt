use Rattle.std.proofs.Common.{◌⊎◌, ℕ, List, take}
use Rattle.std.specs.List.{Contains}
use Rattle.lf_rounds.specs.views.Standings.{AreRowSums, IsCurrent}
use Rattle.lf_rounds.proofs.due.due_by.Given as goal

abbrev pub invariant-loop-number : goal.invariant-loop-number
invariant-loop-number l = record {
  some : (k : ℕ) → Contains l.due k → Contains l.all k;
  others : (wide : ℕ) (words : List ℕ) → AreRowSums wide words l.sums → (k : ℕ) → Contains (take l.number-index l.number-items) k → Contains l.due k ⊎ IsCurrent wide words l.known.reads l.last k;
}
