use Rattle.std.proofs.Common.{◌≡◌, ◌+◌, ◌-◌, drop, length}
use Rattle.lf_scalar.specs.Lines.{lines_at}
use Rattle.lf_scalar.specs.Block.{body_fault}
use Rattle.lf_scalar.proofs.BodyRun.{Seen}
use Rattle.lf_scalar.proofs.body.find_body.Given as goal

abbrev pub invariant-loop-place : goal.invariant-loop-place
invariant-loop-place l = Seen l.indent l.at l.bytes l.found l.place × (body_fault l.leads l.above l.indent (lines_at l.at l.bytes) ≡ body_fault l.leading l.above l.indent (lines_at (l.at + l.place) (drop l.place l.bytes)))

abbrev pub decreases-loop-place : goal.decreases-loop-place
decreases-loop-place l = length l.bytes - l.place
