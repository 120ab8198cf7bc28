use Rattle.std.proofs.Common.{◌≤◌, List, length, map, sym, ◌∙◌, subst, arith}
use Rattle.std.proofs.lemmas.List.{length-map}
use Rattle.std.proofs.lemmas.List.Filters.{dedup_is}
use Rattle.std.proofs.lemmas.List.Elements.{All-contains_itself}
use Rattle.std.specs.List.{All, Contains}
use Rattle.std.specs.List.Sorted.{IsPermutation}
use Rattle.std.specs.Ordering.{eq_by_cmp}
use Rattle.lf_laws.specs.Ascending.{IsInOrder}
use Rattle.lf_ast.specs.declared.verdict.Finding.{Finding as Row}
use Rattle.lf_base.specs.declared.keyed.Keyed.{Keyed}
use Rattle.lf_base.specs.views.Keyed.{keyed_cmp}
use Rattle.lf_checks.specs.Finding.{finding_cmp}
use Rattle.lf_checks.specs.views.InOrder.{keyed}
use Rattle.lf_checks.specs.views.Shown.{all_shown, shown}
use Rattle.lf_checks.proofs.Ordered.{few_in_order, given, in_order}
use Rattle.lf_checks.proofs.ordering.in_order.Goals as goal

pub returns-then-len-le1-clause-order : goal.returns-then-len-le1-clause-order
returns-then-len-le1-clause-order c files rules one =
    let found : List Row = c.args.found.items in
    let few : length (all_shown files rules found) ≤ 1 = omega (arith, c.if-len-le1.true, c.len.ensures, length-map found (shown files rules)) in
    subst (λ (l : List Row). IsInOrder finding_cmp (all_shown files rules found) (all_shown files rules l)) (sym c.from_vec.ensures) (few_in_order finding_cmp (all_shown files rules found) few)

pub returns-then-len-le1-clause-given : goal.returns-then-len-le1-clause-given
returns-then-len-le1-clause-given c = let found : List Row = c.args.found.items in subst (All (Contains found)) (sym c.from_vec.ensures) (All-contains_itself found)

pub returns-clause-order : goal.returns-clause-order
returns-clause-order c files rules one =
    let found : List Row = c.args.found.items in
    let sorted : List (Keyed Row) = c.sort_unstable.new.self.items in
    let left : List (Keyed Row) = c.dedup.new.self.items in
    let P : List (Keyed Row) → Type 0 = λ ks. IsPermutation ks sorted in
    let moved : IsPermutation (map keyed found) sorted = subst P c.in_ok-keyed.ensures c.sort_unstable.ensures.permutation in
    let is = c.from_vec-2.ensures ∙ c.in_ok-sorted.ensures in
    subst (λ (l : List Row). IsInOrder finding_cmp (all_shown files rules found) (all_shown files rules l)) (sym is)
    (in_order files rules found sorted moved c.sort_unstable.ensures.sorted one left (dedup_is (eq_by_cmp keyed_cmp) sorted left c.dedup.ensures.filtered))

pub returns-clause-given : goal.returns-clause-given
returns-clause-given c =
    let found : List Row = c.args.found.items in
    let sorted : List (Keyed Row) = c.sort_unstable.new.self.items in
    let left : List (Keyed Row) = c.dedup.new.self.items in
    let P : List (Keyed Row) → Type 0 = λ ks. IsPermutation ks sorted in
    let moved : IsPermutation (map keyed found) sorted = subst P c.in_ok-keyed.ensures c.sort_unstable.ensures.permutation in
    subst (All (Contains found)) (sym (c.from_vec-2.ensures ∙ c.in_ok-sorted.ensures)) (given found sorted left moved (dedup_is (eq_by_cmp keyed_cmp) sorted left c.dedup.ensures.filtered))
