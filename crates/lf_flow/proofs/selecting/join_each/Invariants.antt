use Rattle.std.proofs.Common.{◌≡◌, ◌≤◌, drop, length}
use Rattle.lf_flow.specs.Raising.{joined_each}
use Rattle.lf_flow.proofs.selecting.join_each.Given as goal

abbrev pub invariant-loop-left : goal.invariant-loop-left
invariant-loop-left l = record { within : l.left ≤ length l.rows; row : l.row ≡ joined_each (drop l.left l.rows) l.initial.row }

abbrev pub decreases-loop-left : goal.decreases-loop-left
decreases-loop-left l = l.left
