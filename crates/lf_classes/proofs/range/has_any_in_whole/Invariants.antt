use Rattle.std.proofs.Common.{◌≡◌, ℕ, ◌*◌, ◌<◌, ◌≤◌, false}
use Rattle.lf_classes.specs.views.Bits.{bit_of}
use Rattle.lf_classes.proofs.range.has_any_in_whole.Given as goal

abbrev pub invariant-loop-number : goal.invariant-loop-number
invariant-loop-number l = record {
  low : l.first ≤ l.number;
  none : (k : ℕ) → 64 * l.first ≤ k → k < 64 * l.last → k < 64 * l.number → bit_of l.words k ≡ false;
}
