use Rattle.std.proofs.Common.{◌≡◌, ℕ, ◌*◌, ◌<◌, true}
use Rattle.lf_classes.specs.views.Bits.{bit_of}
use Rattle.lf_classes.proofs.range.has_all_in_last.Given as goal

abbrev pub invariant-loop-number : goal.invariant-loop-number
invariant-loop-number l = (k : ℕ) → k < l.to → k < 64 * l.number → bit_of l.words k ≡ true → bit_of l.others k ≡ true
