use Rattle.std.proofs.Common.{List, refl, sym, ◌∙◌, subst}
use Rattle.std.specs.List.{Contains, dedup}
use Rattle.std.specs.Ordering.{eq_by_cmp}
use Rattle.std.proofs.lemmas.Cmp.{eq_by_cmp_equiv}
use Rattle.std.proofs.lemmas.List.Filters.{dedup_is}
use Rattle.std.proofs.lemmas.List.Kept.{Contains-dedup, Contains-from_dedup, IsStrictlySortedBy-dedup}
use Rattle.lf_ast.specs.Labels.{Labels}
use Rattle.lf_ast.specs.LabelOrder.{labels_cmp}
use Rattle.lf_witness.specs.Ascending.{IsAscending}
use Rattle.lf_witness.proofs.AscendingLists.{labels_total}
use Rattle.lf_strict.proofs.Times.{same_moved, strictly_ascends}
use Rattle.lf_witness.proofs.Decided.{told_same}
use Rattle.lf_strict.proofs.apart.together.Goals as goal

pub returns-clause-same : goal.returns-clause-same
returns-clause-same c =
    let sorted = c.sorted-made.result.items in
    let is = c.from_vec.ensures ∙ dedup_is (eq_by_cmp labels_cmp) sorted _ c.dedup.ensures.filtered in
    let moved = same_moved c.args.made.items sorted c.sorted-made.ensures.permutation in (
      λ s h. subst (λ (l : List Labels). Contains l s) (sym is) (Contains-dedup (eq_by_cmp_equiv labels_total) told_same sorted s (moved.0 s h)),
      λ s h. moved.1 s (Contains-from_dedup (eq_by_cmp labels_cmp) sorted s (subst (λ (l : List Labels). Contains l s) is h)),
    )

pub returns-clause-ascends : goal.returns-clause-ascends
returns-clause-ascends c =
    let sorted = c.sorted-made.result.items in
    let is = c.from_vec.ensures ∙ dedup_is (eq_by_cmp labels_cmp) sorted _ c.dedup.ensures.filtered in
    subst IsAscending (sym is) (strictly_ascends (dedup (eq_by_cmp labels_cmp) sorted) (IsStrictlySortedBy-dedup labels_total (λ s t. refl) sorted c.sorted-made.ensures.sorted))
