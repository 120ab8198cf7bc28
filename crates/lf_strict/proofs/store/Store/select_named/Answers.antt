use Rattle.std.proofs.Common.{◌≡◌, ◌++◌, List, ap, ap₂, ◌∙◌, sym, subst}
use Rattle.std.specs.List.{filter}
use Rattle.std.proofs.lemmas.List.Elements.{filter-append}
use Rattle.lf_ast.specs.Labels.{Labels}
use Rattle.lf_witness.specs.Strict.{AreSelected}
use Rattle.lf_strict.specs.views.Selected.{has_name, passing}
use Rattle.lf_strict.proofs.Operands.{both_ok}
use Rattle.lf_strict.proofs.Selected.{chosen_selected, joined_selected, moved_selected}
use Rattle.lf_strict.proofs.store.Store.select_named.Goals as goal

pub returns : goal.returns
returns c =
    let name = c.args.name.now in
    let ms = c.args.matchers.now in
    let given : List Labels = c.self.inside.given.now in
    let few : List Labels = c.self.inside.few.items in
    let before : List Labels = given ++ few in
    let others : List Labels = c.self.inside.others in
    let found : List Labels = c.in_ok-found.found in
    let more : List Labels = c.in_ok-others.others in
    let append = λ (x y : List Labels). x ++ y in
    let kept : c.in_ok-kept.kept ≡ filter (has_name name) before =
    c.in_ok-kept.ensures ∙ ap₂ append c.in_ok-first.ensures (ap (filter (has_name name)) c.as_slice.ensures.value) ∙ sym (filter-append (has_name name) given few) in
    let chosen : found ≡ passing ms (filter (has_name name) before) = c.in_ok-found.ensures ∙ ap (passing ms) kept in
    let first = subst (λ (l : List Labels). AreSelected before name ms l) (sym chosen) (chosen_selected before name ms) in
    let both = joined_selected before others name ms found more first c.in_ok-others.ensures.0 in
    both_ok c.joined.result
    (λ all same ascends. (subst (λ (l : List Labels). AreSelected l name ms all) c.self.view_is (moved_selected (before ++ others) name ms (found ++ more) all both same), ascends))
    c.joined.ensures.same c.joined.ensures.ascends
