use Rattle.std.proofs.Common.{◌≡◌, ◌<◌, ◌+◌, ◌-◌, ◌^◌, ℕ, List, get_or, length, min, take, sym, ap, ◌∙◌, rules}
use Rattle.std.specs.List.{sum_by}
use Rattle.std.proofs.lemmas.List.Elements.{Contains-get_or}
use Rattle.std.proofs.lemmas.List.Sums.{sum_by_more}
use Rattle.lf_weights.specs.views.Masks.{mask_at, weight_in}
use Rattle.lf_weights.proofs.Sums.{part_up_to}
use Rattle.lf_weights.proofs.weighing.weigh_all.Goals as goal

pub offset_bounds-masks-number : goal.offset_bounds-masks-number
offset_bounds-masks-number c =
    let numbers : List ℕ = c.args.numbers.now in
    let i : ℕ = c.loop-number.number-index in
    let within : get_or numbers i 0 < length c.args.masks.now = c.requires.numbers (get_or numbers i 0) (Contains-get_or numbers i 0 c.loop-number-test.true) in
    search rules

pub bounds-masks-number : goal.bounds-masks-number
bounds-masks-number c = c.requires.numbers (get_or c.args.numbers.now c.loop-number.number-index 0) (Contains-get_or c.args.numbers.now c.loop-number.number-index 0 c.loop-number-test.true)

pub loop-number-preserved : goal.loop-number-preserved
loop-number-preserved c =
    let f : ℕ → ℕ = λ k. weight_in (mask_at c.args.masks.now k) c.args.weights.now in
    let numbers : List ℕ = c.args.numbers.now in
    let i : ℕ = c.loop-number.number-index in
    let more : sum_by f (take (i + 1) numbers) ≡ sum_by f (take i numbers) + f (get_or numbers i 0) = sum_by_more f numbers i 0 c.loop-number-test.true in
    part_up_to (sum_by f (take i numbers)) (f (get_or numbers i 0)) (2 ^ 64 - 1) c.loop-number.total c.weigh.result c.saturating_add-total.result c.loop-number.invariant c.weigh.ensures c.saturating_add-total.ensures
    ∙ ap (λ (n : ℕ). min n (2 ^ 64 - 1)) (sym more)
