use Rattle.std.proofs.Common.{◌≡◌, ℕ, ◌+◌, ◌-◌, ◌≤◌, ◌⊎◌, length, drop}
use Rattle.lf_scalar.specs.Lines.{lines_at}
use Rattle.lf_scalar.specs.Block.{told_indent}
use Rattle.lf_scalar.proofs.body.told_indent.Given as goal

abbrev pub invariant-loop-place : goal.invariant-loop-place
invariant-loop-place l =
    ((at : ℕ) → told_indent l.above l.above (lines_at at l.body) ≡ told_indent l.above l.longest (lines_at (at + l.place) (drop l.place l.body))) × (l.place ≤ length l.body + 1) × ((l.longest ≤ length l.body) ⊎ (l.longest ≤ l.above))

abbrev pub decreases-loop-place : goal.decreases-loop-place
decreases-loop-place l = length l.body - l.place
