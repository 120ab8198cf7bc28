-- What is found and what is due while components are gone through, the last first.
use Rattle.std.proofs.Common.{◌≡◌, ◌⊎◌, ◌↔◌, ℕ, ◌+◌, ◌<◌, ◌≤◌, max, List, [], ◌∷◌, ◌++◌, length, get_or, inl, inr, refl, sym, subst, arith}
use Rattle.std.specs.List.{All, Contains}
use Rattle.std.specs.BTreeMap.Range.{IsLtBy}
use Rattle.std.specs.Ordering.{nat_cmp}
use Rattle.std.specs.declared.cmp.Ordering.TheVariants.{Less}
use Rattle.std.proofs.lemmas.Cmp.{ranked}
use Rattle.std.proofs.lemmas.List.Elements.{All-contains, Contains-append_left, Contains-push, Contains-push_cases}
use Rattle.lf_graph.specs.Components.{AreComponents, Components, number_of}
use Rattle.lf_graph.specs.views.Listing.{Adds, AddsBelow, numbers_of}
use Rattle.lf_graph.specs.Paths.{IsReached, Leads}
use Rattle.lf_graph.specs.Paths.Leads.{nowhere, along}
use Rattle.lf_laws.proofs.Members.{behind, first_or_behind, in_map, map_member, none_in}
use Rattle.lf_graph.proofs.Leading.{walk}
use Rattle.lf_graph.proofs.Paths.{onwards}

-- edges lead to a node from one whose component is due
abbrev pub IsFromDue : List (List ℕ) → List ℕ → List ℕ → ℕ → Type 0
IsFromDue edges numbers due v = (u : ℕ) × (u < length edges) × Contains due (number_of numbers u) × Leads edges u v

-- what is reached is found already, or it is reached from what is due
abbrev pub IsFoundOrDue : List (List ℕ) → List ℕ → List ℕ → List ℕ → List ℕ → Type 0
IsFoundOrDue edges numbers start found due = (v : ℕ) → IsReached edges start v ↔ (Contains found v ⊎ IsFromDue edges numbers due v)

-- one more than the greatest of some numbers, and 0 where there is none
abbrev pub height : List ℕ → ℕ
height [] = 0
height (k ∷ ks) = max (k + 1) (height ks)

above : (ks : List ℕ) (k : ℕ) → Contains ks k → k < height ks
above [] k c = absurd (none_in k c)
above (x ∷ ks) k c = elim (first_or_behind x ks k c) [ inl e ↦ omega (arith, e) | inr d ↦ let r = above ks k d in omega (arith, r) ]

no_higher : (ks : List ℕ) (n : ℕ) → ((k : ℕ) → Contains ks k → k < n) → height ks ≤ n
no_higher [] n h = omega arith
no_higher (x ∷ ks) n h =
    let here = h x (0, omega arith, refl) in
    let rest = no_higher ks n (λ k c. h k (behind x ks k c)) in
    omega (arith, here, rest)

-- the greatest of what is due is taken out

module _ (due rest : List ℕ) (k : ℕ) (taken : due ≡ rest ++ k ∷ []) where
  pub was_due : Contains due k
  was_due = let P : List ℕ → Type 0 = λ l. Contains l k in subst P (sym taken) (Contains-push rest k)

  stays_due : (j : ℕ) → Contains rest j → Contains due j
  stays_due j c = let P : List ℕ → Type 0 = λ l. Contains l j in subst P (sym taken) (Contains-append_left rest (k ∷ []) j c)

  due_cases : (j : ℕ) → Contains due j → Contains rest j ⊎ (k ≡ j)
  due_cases j c = let P : List ℕ → Type 0 = λ l. Contains l j in Contains-push_cases rest k j (subst P taken c)

-- what is put in comes before it
module _ (due rest later nexts : List ℕ) (k : ℕ) (taken : due ≡ rest ++ k ∷ []) (below : All (λ q. IsLtBy nat_cmp q k) rest) (puts : AddsBelow nexts k rest later) where
  later_below : (j : ℕ) → Contains later j → j < k
  later_below j c = elim (puts.only j c) [
    | inl d ↦ ranked j k Less (sym (All-contains (λ q. IsLtBy nat_cmp q k) rest j below d))
    | inr d ↦ d.1
  ]

  pub lower : height later < height due
  lower =
      let most = no_higher later k later_below in
      let least = above due k (was_due due rest k taken) in
      omega (arith, most, least)

  pub due_within : (n : ℕ) → ((j : ℕ) → Contains due j → j < n) → (j : ℕ) → Contains later j → j < n
  due_within n h j c =
      let less = later_below j c in
      let top = h k (was_due due rest k taken) in
      omega (arith, less, top)

abbrev number : Components → ℕ → ℕ
number c u = number_of c.numbers u

-- where the components of start nodes are due
module _ (edges : List (List ℕ)) (c : Components) (are : AreComponents edges c) (start due : List ℕ) (within : (u : ℕ) → Contains start u → u < length c.numbers) (adds : Adds (numbers_of c.numbers start) [] due) where
  is_node : (u : ℕ) → Contains start u → u < length edges
  is_node u there = let h = within u there in omega (arith, h, are.numbered.nodes)

  from_start : (k : ℕ) → Contains due k → (u : ℕ) × Contains start u × (number c u ≡ k)
  from_start k there = elim (adds.only k there) [ inl d ↦ absurd (none_in k d) | inr d ↦ let u = map_member (number_of c.numbers) start k d in (u.0, u.1, sym u.2) ]

  pub starts_within : (k : ℕ) → Contains due k → k < length c.members
  starts_within k there =
      let u = from_start k there in
      let h = are.numbered.below u.0 (is_node u.0 u.1) in
      omega (arith, h, u.2)

  pub starts : IsFoundOrDue edges c.numbers start [] due
  starts v = (
    λ r. inr (r.0, is_node r.0 r.1, adds.all (number c r.0) (in_map (number_of c.numbers) start r.0 r.1), r.2),
    λ s. elim s [
      | inl d ↦ absurd (none_in v d)
      | inr d ↦
          let u = from_start (number c d.0) d.2 in
          (u.0, u.1, onwards edges u.0 d.0 v (are.numbered.together u.0 d.0 (is_node u.0 u.1) d.1 u.2) d.3)
    ],
  )

-- where a component is gone through
module _ (edges : List (List ℕ)) (c : Components) (are : AreComponents edges c) (start found more due rest later : List ℕ) (k : ℕ) where
  abbrev members : List ℕ
  members = get_or c.members k []

  abbrev nexts : List ℕ
  nexts = get_or c.nexts k []

  pub goes_on : due ≡ rest ++ k ∷ [] → Adds members found more → AddsBelow nexts k rest later → IsFoundOrDue edges c.numbers start found due → IsFoundOrDue edges c.numbers start more later
  goes_on taken adds puts was v = (
    λ r. elim ((was v).0 r) [
      | inl f ↦ inl (adds.kept v f)
      | inr d ↦ elim (due_cases due rest k taken (number c d.0) d.2) [
        | inl e ↦ inr (d.0, d.1, puts.kept (number c d.0) e, d.3)
        | inr e ↦ elim (walk edges c are k d.0 v d.1 (sym e) d.3) [
          | inl m ↦ inl (adds.all v m)
          | inr w ↦ inr (w.0, w.1, puts.all (number c w.0) (w.2, w.3), w.4)
        ]
      ]
    ],
    λ s. (was v).1 (elim s [
      | inl f ↦ elim (adds.only v f) [
        | inl g ↦ inl g
        | inr m ↦ let is = (are.members k v).0 m in inr (v, is.0, there (number c v) (sym is.1), nowhere)
      ]
      | inr d ↦ elim (puts.only (number c d.0) d.2) [
        | inl e ↦ inr (d.0, d.1, stays_due due rest k taken (number c d.0) e, d.3)
        | inr e ↦
            let next = (are.nexts k (number c d.0)).0 e.0 in
            let over = are.numbered.together next.1 d.0 (are.graph next.0 next.1 next.4) d.1 next.5 in
            inr (next.0, next.2, there (number c next.0) (sym next.3), along next.1 next.4 (onwards edges next.1 d.0 v over d.3))
      ]
    ]),
  )
    where
      there : (j : ℕ) → k ≡ j → Contains due j
      there j e = let P : ℕ → Type 0 = λ z. Contains due z in subst P e (was_due due rest k taken)

-- where none is due
pub all_found : (edges : List (List ℕ)) (numbers start found due : List ℕ) → due ≡ [] → IsFoundOrDue edges numbers start found due → (v : ℕ) → Contains found v ↔ IsReached edges start v
all_found edges numbers start found due none is v = (
  λ f. (is v).1 (inl f),
  λ r. elim ((is v).0 r) [
    | inl f ↦ f
    | inr d ↦ let P : List ℕ → Type 0 = λ l. Contains l (number_of numbers d.0) in absurd (none_in (number_of numbers d.0) (subst P none d.2))
  ],
)
