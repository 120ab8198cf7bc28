use Rattle.std.proofs.Common.{length, ◌+◌, ◌≤◌, ◌<◌}
use Rattle.lf_scalar.specs.Lines.{lines_at}
use Rattle.lf_scalar.specs.reading.Quoted.{broken, lines_behind}
use Rattle.lf_scalar.proofs.LinesBehind.{Left}
use Rattle.lf_scalar.proofs.quoted_scalar.push_behind.Given as goal

abbrev pub invariant-loop-left : goal.invariant-loop-left
invariant-loop-left l = Left l.kind (lines_behind l.kind (broken l.fn.first.at_break l.fn.first.at) 0 (lines_at l.at l.rest)) l.fn.builder l.builder (broken l.pending.at_break l.pending.at) l.pending.blank (lines_at l.place l.left)
    × (0 < length l.left → l.place + length l.left ≤ l.at + length l.rest) × (l.pending.blank + length l.left ≤ length l.rest)

abbrev pub decreases-loop-left : goal.decreases-loop-left
decreases-loop-left l = length l.left
