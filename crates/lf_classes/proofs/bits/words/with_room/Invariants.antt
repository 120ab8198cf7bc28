use Rattle.std.proofs.Common.{◌≡◌, ◌<◌, ℕ, length, slice_index}
use Rattle.lf_classes.proofs.bits.words.with_room.Given as goal

abbrev pub invariant-loop : goal.invariant-loop
invariant-loop l = (length l.all.items ≡ l.counter) × ((k : ℕ) → k < length l.words → slice_index l.all.items k ≡ slice_index l.words k)
