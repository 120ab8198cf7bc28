use Rattle.std.proofs.Common.{◌≡◌, ℕ, ◌*◌, ◌<◌, ◌≤◌, false}
use Rattle.lf_classes.specs.views.Bits.{bit_of}
use Rattle.lf_classes.proofs.range.has_any_in_part.Given as goal

abbrev pub invariant-loop-number : goal.invariant-loop-number
invariant-loop-number l = (k : ℕ) → l.from ≤ k → k < l.to → k < 64 * l.number → bit_of l.words k ≡ false
