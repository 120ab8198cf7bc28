use Rattle.std.proofs.Common.{length, ◌-◌, ◌≤◌}
use Rattle.lf_scalar.proofs.Reaching.{SoFar}
use Rattle.lf_scalar.proofs.quoted.push_pieces.Given as goal

abbrev pub invariant-loop-stop : goal.invariant-loop-stop
invariant-loop-stop l = SoFar l.kind l.at l.line l.fn.builder l.builder l.kept l.stop × (l.stop ≤ length l.line)

abbrev pub decreases-loop-stop : goal.decreases-loop-stop
decreases-loop-stop l = length l.line - l.stop
