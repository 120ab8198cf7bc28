use Rattle.std.proofs.Common.{◌≡◌, ◌-◌, ◌^◌, min, take}
use Rattle.std.specs.List.{sum_by}
use Rattle.lf_weights.specs.views.Masks.{mask_at, weight_in}
use Rattle.lf_weights.proofs.weighing.weigh_all.Given as goal

abbrev pub invariant-loop-number : goal.invariant-loop-number
invariant-loop-number l = l.total ≡ min (sum_by (λ k. weight_in (mask_at l.masks k) l.weights) (take l.number-index l.numbers)) (2 ^ 64 - 1)
