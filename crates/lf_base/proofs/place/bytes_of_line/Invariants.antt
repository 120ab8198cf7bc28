-- The bytes from `start` on are no line feeds.
use Rattle.std.proofs.Common.{◌≡◌, ◌≤◌, ◌<◌, ℕ, length, get_or, not, true}
use Rattle.lf_base.specs.Places.{is_line_feed}
use Rattle.lf_base.proofs.place.bytes_of_line.Given as goal

abbrev pub invariant-loop-start : goal.invariant-loop-start
invariant-loop-start l = record {
  within : l.start ≤ length l.bytes;
  behind : (k : ℕ) → l.start ≤ k → k < length l.bytes → not (is_line_feed (get_or l.bytes k 0)) ≡ true;
}

abbrev pub decreases-loop-start : goal.decreases-loop-start
decreases-loop-start l = l.start
