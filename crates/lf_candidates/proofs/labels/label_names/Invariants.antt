use Rattle.std.proofs.Common.{◌≡◌, take}
use Rattle.lf_candidates.proofs.labels.label_names.Given as goal

abbrev pub invariant-loop-label : goal.invariant-loop-label
invariant-loop-label l = l.names.items ≡ take l.label l.universe.names
