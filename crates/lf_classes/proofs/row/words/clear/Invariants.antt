use Rattle.std.proofs.Common.{◌≡◌, ◌<◌, ℕ, length, slice_index}
use Rattle.lf_classes.proofs.row.words.clear.Given as goal

abbrev pub invariant-loop-k : goal.invariant-loop-k
invariant-loop-k l = (length l.words.items ≡ length l.initial.words.items) × ((j : ℕ) → j < l.k → slice_index l.words.items j ≡ 0)
