use Rattle.std.proofs.Common.{◌≡◌, ◌<◌, ◌-◌, ℕ, true, get_or, length}
use Rattle.lf_deps.proofs.queue.first_left.Given as goal

abbrev pub invariant-loop-place : goal.invariant-loop-place
invariant-loop-place l = (j : ℕ) → j < l.place → get_or l.taken j true ≡ true

abbrev pub decreases-loop-place : goal.decreases-loop-place
decreases-loop-place l = length l.taken - l.place
