use Rattle.lf_scalar.proofs.HeaderRun.{SoFar}
use Rattle.lf_scalar.proofs.header.read_header.Given as goal

abbrev pub invariant-loop-i : goal.invariant-loop-i
invariant-loop-i l = SoFar l.header l.chomp l.digit l.i
