use Rattle.std.proofs.Common.{◌≡◌, take}
use Rattle.lf_judge.proofs.SoFar.{side_by_side}
use Rattle.lf_judge.proofs.judging.told_files.Given as goal

abbrev pub invariant-loop-k : goal.invariant-loop-k
invariant-loop-k l = l.told ≡ side_by_side (take l.k l.files) (take l.k l.refusals)
