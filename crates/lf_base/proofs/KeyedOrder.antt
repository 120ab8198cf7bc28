-- Values that are put in the order of their keys, each key once, are in their own order as they are shown, where their keys tell it.
use Rattle.std.proofs.Common.{◌≡◌, ℕ, true, List, map, Some, get_or, refl, sym, ap, ◌∙◌, subst}
use Rattle.std.proofs.lemmas.List.Kept.{Any-dedup, Contains-from_dedup, IsStrictlySortedBy-dedup}
use Rattle.std.proofs.lemmas.List.Sorted.{Contains-permutation, IsPermutation-sym}
use Rattle.std.proofs.lemmas.Map.Keys.{Less-from_sorted}
use Rattle.std.proofs.lemmas.Option.{get_or_from_slice_get, slice_get_within}
use Rattle.std.specs.Cmp.{IsTotalOrder, eq_by_cmp_equiv, on_total}
use Rattle.std.specs.Cmp.Lexicographic.{nat_list_cmp_total, slice_cmp}
use Rattle.std.specs.List.{Any, Contains, dedup}
use Rattle.std.specs.List.Sorted.{IsPermutation, IsSorted, IsStrictlySortedBy}
use Rattle.std.specs.Ordering.{eq_by_cmp, nat_cmp}
use Rattle.std.specs.Prelude.{slice_get}
use Rattle.std.specs.declared.cmp.Ordering.{Ordering}
use Rattle.std.specs.declared.cmp.Ordering.TheVariants.{Less, Equal}
use Rattle.lf_laws.specs.Ascending.{IsAscending, IsInOrder}
use Rattle.lf_laws.proofs.Ascending.{tied}
use Rattle.lf_laws.proofs.Members.{in_map, map_member}
use Rattle.lf_laws.proofs.Slices.{member_at, of_map_at}
use Rattle.lf_base.specs.declared.keyed.Keyed.{Keyed}
use Rattle.lf_base.specs.views.Keyed.{keyed_cmp, items_of}

module _ {T F : Type 0} (key : T → List ℕ) (shown : T → F) (cmp : F → F → Ordering) where
  abbrev keyed : T → Keyed T
  keyed x = record { key = key x; item = x }

  abbrev item : Keyed T → T
  item k = k.item

  total : IsTotalOrder (keyed_cmp {T = T})
  total = on_total items_of nat_list_cmp_total

  module _ (found : List T) (sorted : List (Keyed T)) (moved : IsPermutation (map keyed found) sorted) where
    -- what is left of the sorted ones, where each key stands once, was found
    from : (k : Keyed T) → Contains (dedup (eq_by_cmp keyed_cmp) sorted) k → (x : T) × Contains found x × (k ≡ keyed x)
    from k c = map_member keyed found k (Contains-permutation sorted (map keyed found) k (IsPermutation-sym (map keyed found) sorted moved) (Contains-from_dedup (eq_by_cmp keyed_cmp) sorted k c))

    pub given : (rs : List (Keyed T)) → rs ≡ dedup (eq_by_cmp keyed_cmp) sorted → (x : T) → Contains (map item rs) x → Contains found x
    given rs is x c =
        let k = map_member item rs x c in
        let y = from k.0 (subst (λ (l : List (Keyed T)). Contains l k.0) is k.1) in
        subst (Contains found) (sym (k.2 ∙ ap item {x = k.0} {y = keyed y.0} y.2)) y.1

    module _ (up : IsSorted keyed_cmp sorted)
        (less : (x y : T) → Contains found x → Contains found y → slice_cmp nat_cmp (key x) (key y) ≡ Less → cmp (shown x) (shown y) ≡ Less)
        (same : (x y : T) → Contains found x → Contains found y → slice_cmp nat_cmp (key x) (key y) ≡ Equal → shown x ≡ shown y) where
      left : List (Keyed T)
      left = dedup (eq_by_cmp keyed_cmp) sorted

      strictly : IsStrictlySortedBy keyed_cmp left
      unfolding left
      strictly = IsStrictlySortedBy-dedup total (λ x y. refl) sorted up

      listed : List F
      listed = map shown (map item left)

      -- what stands at a place
      at_place : (j : ℕ) (f : F) → slice_get listed j ≡ Some f → (x : T) × Contains found x × (f ≡ shown x) × (slice_get left j ≡ Some (keyed x))
      unfolding left listed
      at_place j f e =
          let there = of_map_at shown (map item left) j f e in
          let k = of_map_at item left j there.0 there.1 in
          let x = from k.0 (member_at left j k.0 k.1) in
          let own : there.0 ≡ x.0 = sym k.2 ∙ ap item {x = k.0} {y = keyed x.0} x.2 in
          (x.0, x.1, sym there.2 ∙ ap shown own, k.1 ∙ ap (λ (l : Keyed T). Some l) x.2)

      ascending : IsAscending cmp listed
      ascending i j f g lt ef eg =
          let x = at_place i f ef in
          let y = at_place j g eg in
          let first = get_or_from_slice_get left i (keyed x.0) (keyed x.0) x.3 in
          let second = get_or_from_slice_get left j (keyed y.0) (keyed x.0) y.3 in
          let less_keys : keyed_cmp (get_or left i (keyed x.0)) (get_or left j (keyed x.0)) ≡ Less = Less-from_sorted keyed_cmp left i j (keyed x.0) strictly lt (slice_get_within left j (keyed y.0) y.3) in
          let half : keyed_cmp (keyed x.0) (get_or left j (keyed x.0)) ≡ Less = subst (λ (z : Keyed T). keyed_cmp z (get_or left j (keyed x.0)) ≡ Less) {x = get_or left i (keyed x.0)} {y = keyed x.0} first less_keys in
          let both : keyed_cmp (keyed x.0) (keyed y.0) ≡ Less = subst (λ (z : Keyed T). keyed_cmp (keyed x.0) z ≡ Less) {x = get_or left j (keyed x.0)} {y = keyed y.0} second half in
          subst (λ (h : F). cmp h g ≡ Less) (sym x.2) (subst (λ (h : F). cmp (shown x.0) h ≡ Less) (sym y.2) (less x.0 y.0 x.1 y.1 both))

      -- what has the key of another, which is left, is shown as it is
      kept_one : (x : T) → Contains found x → Contains listed (shown x)
      unfolding left listed
      kept_one x c = by (Any-dedup (eq_by_cmp_equiv total) sorted (keyed x) (Contains-permutation (map keyed found) sorted (keyed x) moved (in_map keyed found x c)))
        where
          by : Any (λ k. eq_by_cmp keyed_cmp (keyed x) k ≡ true) (dedup (eq_by_cmp keyed_cmp) sorted) → Contains listed (shown x)
          by (j, k, below, at, e) =
              let y = from k (j, below, at) in
              let P : Keyed T → Type 0 = λ q. keyed_cmp (keyed x) q ≡ Equal in
              let one : shown x ≡ shown y.0 = same x y.0 c y.1 (subst P {x = k} {y = keyed y.0} y.2 (tied (keyed_cmp (keyed x) k) e)) in
              let there : shown k.item ≡ shown x = ap (λ (l : Keyed T). shown l.item) {x = k} {y = keyed y.0} y.2 ∙ sym one in
              subst (Contains (map shown (map item left))) there (in_map shown (map item left) k.item (in_map item left k (j, below, at)))

      kept : (f : F) → Contains (map shown found) f → Contains listed f
      kept f c = let x = map_member shown found f c in subst (Contains listed) (sym x.2) (kept_one x.0 x.1)

      only : (f : F) → Contains listed f → Contains (map shown found) f
      unfolding left listed
      only f c = let x = map_member shown (map item left) f c in subst (Contains (map shown found)) (sym x.2) (in_map shown found x.0 (given left refl x.0 x.1))

      pub in_order : (rs : List (Keyed T)) → rs ≡ dedup (eq_by_cmp keyed_cmp) sorted → IsInOrder cmp (map shown found) (map shown (map item rs))
      unfolding left listed
      in_order rs is = subst (λ (ks : List (Keyed T)). IsInOrder cmp (map shown found) (map shown (map item ks))) (sym is) (record { ascending = ascending; kept = kept; only = only })
