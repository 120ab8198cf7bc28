use Rattle.std.proofs.Common.{◌≡◌, ◌++◌, length, map, reverse}
use Rattle.lf_judge.proofs.FoundTogether.{findings_of, known_of}
use Rattle.lf_judge.proofs.rule_found.together.Given as goal

abbrev pub invariant-loop-next : goal.invariant-loop-next
invariant-loop-next l = record { known : map known_of l.found ++ reverse l.taken ≡ l.fn.known; findings : map findings_of l.found ++ reverse l.waiting ≡ l.fn.findings; count : length l.waiting ≡ length l.taken }

abbrev pub decreases-loop-next : goal.decreases-loop-next
decreases-loop-next l = length l.taken
