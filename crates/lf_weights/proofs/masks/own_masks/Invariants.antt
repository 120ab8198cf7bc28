use Rattle.lf_weights.specs.views.Masks.{AreMasks}
use Rattle.lf_weights.proofs.Passing.{HasBefore}
use Rattle.lf_weights.proofs.masks.own_masks.Given as goal

abbrev pub invariant-loop-place : goal.invariant-loop-place
invariant-loop-place l = AreMasks l.count (HasBefore l.numbers l.place) l.masks.items
