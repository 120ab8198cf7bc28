use Rattle.std.proofs.Common.{◌≡◌, ◌+◌, ◌-◌, ◌^◌, ℕ, List, Option, min, take, sym, ap, ◌∙◌}
use Rattle.std.specs.List.{sum_by}
use Rattle.std.proofs.lemmas.List.Sums.{sum_by_more}
use Rattle.lf_ast.specs.Labels.{Bytes}
use Rattle.lf_worlds.specs.views.AtMost.{most_by}
use Rattle.lf_worlds.proofs.AtMost.{one_up_to}
use Rattle.lf_worlds.proofs.at_most.most_by_all.Goals as goal

pub loop-selector-preserved : goal.loop-selector-preserved
loop-selector-preserved c =
    let f : Option Bytes → ℕ = most_by c.args.sources.now c.args.each.now in
    let selected : List (Option Bytes) = c.args.selected.now in
    let i : ℕ = c.loop-selector.selector-index in
    let x : Option Bytes = c.selector-item.result in
    let more : sum_by f (take (i + 1) selected) ≡ sum_by f (take i selected) + f x = sum_by_more f selected i x c.loop-selector-test.true ∙ ap (λ (o : Option Bytes). sum_by f (take i selected) + f o) (sym c.selector-item.is) in
    one_up_to (sum_by f (take i selected)) (f x) (2 ^ 64 - 1) c.loop-selector.all c.saturating_add-all.result c.loop-selector.invariant
    (c.saturating_add-all.ensures ∙ ap (λ (n : ℕ). min (c.loop-selector.all + n) (2 ^ 64 - 1)) c.most_by.ensures)
    ∙ ap (λ (n : ℕ). min n (2 ^ 64 - 1)) (sym more)
