use Rattle.std.proofs.Common.{length, drop, ◌-◌, ◌+◌, ◌≤◌}
use Rattle.lf_scalar.specs.Lines.{lines_at}
use Rattle.lf_yaml.proofs.PlainLines.{Onto}
use Rattle.lf_yaml.proofs.flow_plain.push_behind.Given as goal

abbrev pub invariant-loop-place : goal.invariant-loop-place
invariant-loop-place l =
    (l.place ≤ length l.rest + 1) × (l.folded.blank ≤ l.place) × Onto l.feed (lines_at l.at l.rest) l.fn.builder l.builder l.folded (lines_at (l.at + l.place) (drop l.place l.rest))

abbrev pub decreases-loop-place : goal.decreases-loop-place
decreases-loop-place l = length l.rest - l.place
