use Rattle.std.proofs.Common.{◌≡◌, ◌+◌, ◌*◌, ◌-◌, ◌^◌, ℕ, get_or, min, sym, ap, ◌∙◌, arith}
use Rattle.std.specs.Int.{bit_at}
use Rattle.std.specs.List.{range_with_len, sum_by}
use Rattle.lf_weights.specs.views.Masks.{weight_in}
use Rattle.lf_weights.proofs.Sums.{none_in_no_mask, one_up_to, sum_more}
use Rattle.lf_weights.proofs.weighing.weigh.Goals as goal

pub returns-then-mask-eq0 : goal.returns-then-mask-eq0
returns-then-mask-eq0 c =
    let none : weight_in c.args.mask c.args.weights.now ≡ 0 = ap (λ (m : ℕ). weight_in m c.args.weights.now) (omega (arith, c.if-mask-eq0.true)) ∙ none_in_no_mask c.args.weights.now in
    omega (arith, none)

pub loop-place-preserved : goal.loop-place-preserved
loop-place-preserved c =
    let f : ℕ → ℕ = λ j. bit_at c.args.mask j * get_or c.args.weights.now j 0 in
    let place : ℕ = c.loop-place.place in
    one_up_to (sum_by f (range_with_len 0 place)) (f place) (2 ^ 64 - 1) c.loop-place.total c.saturating_add-total.result c.loop-place.invariant (c.saturating_add-total.ensures ∙ ap (λ (w : ℕ). min (c.loop-place.total + w) (2 ^ 64 - 1)) c.weight_if_set.ensures) ∙ ap (λ (n : ℕ). min n (2 ^ 64 - 1)) (sym (sum_more f place))
