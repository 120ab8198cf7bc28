use Rattle.std.proofs.Common.{◌≡◌, take}
use Rattle.lf_weights.specs.views.Masks.{joined}
use Rattle.lf_weights.proofs.masks.join.Given as goal

abbrev pub invariant-loop-other : goal.invariant-loop-other
invariant-loop-other l = l.mask ≡ joined l.masks.items l.number (take l.other-index l.others)
