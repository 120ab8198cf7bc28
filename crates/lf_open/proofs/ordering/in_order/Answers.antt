use Rattle.std.proofs.Common.{◌≡◌, List, map, sym, subst}
use Rattle.std.proofs.lemmas.List.Filters.{dedup_is}
use Rattle.std.specs.List.Sorted.{IsPermutation}
use Rattle.std.specs.Ordering.{eq_by_cmp}
use Rattle.std.proofs.lemmas.Result.{IfOk-weaker}
use Rattle.lf_open.specs.declared.open_at.OpenAt.{OpenAt}
use Rattle.lf_base.specs.declared.keyed.Keyed.{Keyed}
use Rattle.lf_base.specs.views.Keyed.{keyed_cmp}
use Rattle.lf_laws.specs.Ascending.{IsInOrder}
use Rattle.lf_open.specs.OpenList.{open_cmp}
use Rattle.lf_open.specs.views.InOrder.{keyed}
use Rattle.lf_open.proofs.Ordered.{in_order}
use Rattle.lf_open.proofs.ordering.in_order.Goals as goal

pub returns : goal.returns
returns c = λ rule of_rule.
    let found : List OpenAt = c.args.found.items in
    let sorted : List (Keyed OpenAt) = c.sort_unstable.new.self.items in
    let left : List (Keyed OpenAt) = c.dedup.new.self.items in
    let P : List (Keyed OpenAt) → Type 0 = λ ks. IsPermutation ks sorted in
    let moved : IsPermutation (map keyed found) sorted = subst P c.in_ok-keyed.ensures c.sort_unstable.ensures.permutation in
    let ordered : IsInOrder open_cmp found (map (λ (k : Keyed OpenAt). k.item) left) = in_order found sorted moved c.sort_unstable.ensures.sorted rule of_rule left (dedup_is (eq_by_cmp keyed_cmp) sorted left c.dedup.ensures.filtered) in
    IfOk-weaker c.without_keys.result (λ all. all.items ≡ map (λ (k : Keyed OpenAt). k.item) left) (λ all. IsInOrder open_cmp found all.items) (λ all e. subst (IsInOrder open_cmp found) (sym e) ordered) c.without_keys.ensures
