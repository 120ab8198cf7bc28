use Rattle.std.proofs.Common.{◌≡◌, take}
use Rattle.lf_judge.specs.Judged.{labels_of}
use Rattle.lf_judge.proofs.judging.told_labels.Given as goal

abbrev pub invariant-loop-label : goal.invariant-loop-label
invariant-loop-label l = l.names ≡ take l.label (labels_of l.universe)
