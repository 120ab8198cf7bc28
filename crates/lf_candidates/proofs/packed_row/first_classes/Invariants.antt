use Rattle.std.proofs.Common.{◌≡◌, take}
use Rattle.lf_candidates.specs.views.Packed.{first_classes}
use Rattle.lf_candidates.proofs.packed_row.first_classes.Given as goal

abbrev pub invariant-loop-label : goal.invariant-loop-label
invariant-loop-label l = l.firsts.items ≡ first_classes (take l.label l.row)
