use Rattle.std.proofs.Common.{◌≡◌, ◌*◌, ◌-◌, ◌^◌, get_or, min}
use Rattle.std.specs.Int.{bit_at}
use Rattle.std.specs.List.{range_with_len, sum_by}
use Rattle.lf_weights.proofs.weighing.weigh.Given as goal

abbrev pub invariant-loop-place : goal.invariant-loop-place
invariant-loop-place l = l.total ≡ min (sum_by (λ j. bit_at l.mask j * get_or l.weights j 0) (range_with_len 0 l.place)) (2 ^ 64 - 1)
