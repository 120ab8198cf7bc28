use Rattle.std.proofs.Common.{◌≡◌, ◌+◌, ◌-◌, ◌^◌, ℕ, List, get_or, min, take, sym, ap, ◌∙◌}
use Rattle.std.specs.List.{sum_by}
use Rattle.std.proofs.lemmas.List.Sums.{sum_by_more}
use Rattle.lf_worlds.specs.views.AtMost.{most_at}
use Rattle.lf_worlds.proofs.AtMost.{one_up_to}
use Rattle.lf_worlds.proofs.at_most.most_at_all.Goals as goal

pub loop-number-preserved : goal.loop-number-preserved
loop-number-preserved c =
    let f : ℕ → ℕ = most_at c.args.each.now in
    let numbers : List ℕ = c.args.numbers.now in
    let i : ℕ = c.loop-number.number-index in
    let more : sum_by f (take (i + 1) numbers) ≡ sum_by f (take i numbers) + f (get_or numbers i 0) = sum_by_more f numbers i 0 c.loop-number-test.true in
    one_up_to (sum_by f (take i numbers)) (f (get_or numbers i 0)) (2 ^ 64 - 1) c.loop-number.all c.saturating_add-all.result c.loop-number.invariant
    (c.saturating_add-all.ensures ∙ ap (λ (n : ℕ). min (c.loop-number.all + n) (2 ^ 64 - 1)) c.most_at.ensures)
    ∙ ap (λ (n : ℕ). min n (2 ^ 64 - 1)) (sym more)
