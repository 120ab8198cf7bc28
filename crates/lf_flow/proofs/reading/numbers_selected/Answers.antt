use Rattle.std.proofs.Common.{◌≡◌, ◌↔◌, ◌++◌, ℕ, List, Option, ap, sym, ◌∙◌, subst}
use Rattle.std.specs.List.{Contains, flat_map}
use Rattle.std.proofs.lemmas.List.{take_all}
use Rattle.lf_ast.specs.Labels.{Bytes}
use Rattle.lf_graph.proofs.Prefixes.{flat_map_next}
use Rattle.lf_flow.specs.views.Reading.{numbers_selected}
use Rattle.lf_flow.proofs.reading.numbers_selected.Goals as goal

pub loop-selector-preserved : goal.loop-selector-preserved
loop-selector-preserved c =
    let found : List (Option Bytes) = c.args.found.now in
    let selected = numbers_selected c.args.recorded.now in
    let one : Option Bytes = c.selector-item.result in
    c.in_ok-add_selected.ensures ∙ ap (λ (l : List ℕ). l ++ selected one) c.loop-selector.invariant ∙ sym (flat_map_next selected found c.loop-selector.selector-index one one c.loop-selector-test.true c.selector-item.is)

pub returns : goal.returns
returns c =
    let found : List (Option Bytes) = c.args.found.now in
    let sorted : List ℕ = c.in_ok-sorted.sorted in
    let all : c.loop-selector.numbers ≡ flat_map (numbers_selected c.args.recorded.now) found = c.loop-selector.invariant ∙ ap (flat_map (numbers_selected c.args.recorded.now)) (take_all c.loop-selector.selector-index found c.loop-selector-test.false) in
    let P : List ℕ → Type 0 = λ l. (k : ℕ) → Contains sorted k ↔ Contains l k in
    record { ascend = c.in_ok-sorted.ensures.ascending; same = subst P all c.in_ok-sorted.ensures.same }
