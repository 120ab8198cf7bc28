use Rattle.std.proofs.Common.{sym, ◌∙◌, ap, subst}
use Rattle.std.specs.List.{filter}
use Rattle.std.specs.FinMap.{from_sorted, retain_keys}
use Rattle.lf_ast.specs.Labels.{Bytes, HasNoEmptyText}
use Rattle.lf_ast.proofs.LabelSets.{AreSortedByName, chosen_in_order, chosen_retains, rest_has_texts}
use Rattle.lf_ast.proofs.label_set.LabelSet.kept.Goals as goal

pub invariant_of-result : goal.invariant_of-result
invariant_of-result g c =
    let p = g.C.LabelChoice.chooses c.args.choice.now in
    let es = c.self.inside.entries.items in
    let is = c.in_ok-entries.ensures ∙ ap (filter (λ (entry : Bytes × Bytes). p entry.0)) c.as_slice.ensures.value in
    (subst AreSortedByName (sym is) (chosen_in_order p es c.self.invariant.0), subst HasNoEmptyText (sym is) (rest_has_texts (λ entry. p entry.0) es c.self.invariant.1))

pub returns : goal.returns
returns g c =
    let p = g.C.LabelChoice.chooses c.args.choice.now in
    let es = c.self.inside.entries.items in
    let is = c.in_ok-entries.ensures ∙ ap (filter (λ (entry : Bytes × Bytes). p entry.0)) c.as_slice.ensures.value in
    ap from_sorted is ∙ chosen_retains p es c.self.invariant.0 ∙ ap (λ s. retain_keys s p) c.self.view_is
