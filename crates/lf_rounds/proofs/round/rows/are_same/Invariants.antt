use Rattle.std.proofs.Common.{◌≡◌, ◌<◌, ◌≤◌, ℕ, slice_index}
use Rattle.lf_rounds.proofs.round.rows.are_same.Given as goal

abbrev pub invariant-loop-k : goal.invariant-loop-k
invariant-loop-k l = (l.different ≤ l.k) × (l.different ≡ 0 → (j : ℕ) → j < l.k → slice_index l.words j ≡ slice_index l.others j)
