use Rattle.lf_cases.proofs.CountsUp.{CountsUp}
use Rattle.lf_cases.proofs.offsets.plain_offsets.Given as goal

abbrev pub invariant-loop-offset : goal.invariant-loop-offset
invariant-loop-offset l = CountsUp l.from l.offset
