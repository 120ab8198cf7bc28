use Rattle.std.proofs.Common.{◌<◌, ◌≤◌, ℕ, slice_index}
use Rattle.lf_deps.proofs.numbers.are_ascending.Given as goal

abbrev pub invariant-loop-k : goal.invariant-loop-k
invariant-loop-k l = (1 ≤ l.k) × ((i j : ℕ) → i < j → j < l.k → slice_index l.numbers i < slice_index l.numbers j)
