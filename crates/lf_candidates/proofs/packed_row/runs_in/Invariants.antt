use Rattle.std.proofs.Common.{◌-◌, ◌≤◌}
use Rattle.lf_candidates.proofs.PackedWords.{InRuns}
use Rattle.lf_candidates.proofs.packed_row.runs_in.Given as goal

abbrev pub invariant-loop-place : goal.invariant-loop-place
invariant-loop-place l = InRuns l.words l.runs.items (l.place - l.first) l.same l.place × (l.first ≤ l.place)
