use Rattle.std.proofs.Common.{◌≡◌, ◌++◌, length, reverse}
use Rattle.lf_judge.proofs.accepting.move_behind.Given as goal

abbrev pub invariant-loop-rule : goal.invariant-loop-rule
invariant-loop-rule l = l.rules ++ reverse l.taken ≡ l.initial.rules ++ reverse l.initial.taken

abbrev pub decreases-loop-rule : goal.decreases-loop-rule
decreases-loop-rule l = length l.taken
