use Rattle.std.proofs.Common.{◌≡◌, ◌<◌, ◌≤◌, ℕ, get_or, true, length}
use Rattle.lf_scalar.specs.Cells.{cell}
use Rattle.lf_scalar.specs.Lines.{is_blank}
use Rattle.lf_scalar.proofs.lines.trimmed_len.Given as goal

abbrev pub invariant-loop-len : goal.invariant-loop-len
invariant-loop-len l = (l.len ≤ length l.text) × ((k : ℕ) → l.len ≤ k → k < length l.text → is_blank (cell (get_or l.text k 0) 0) ≡ true)

abbrev pub decreases-loop-len : goal.decreases-loop-len
decreases-loop-len l = l.len
