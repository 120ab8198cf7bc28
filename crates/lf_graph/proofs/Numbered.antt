-- Once all nodes are met and none is open, the numbers are those of the components.
use Rattle.std.proofs.Common.{◌≡◌, ℕ, ◌<◌, List, [], length, map, get_or, inl, inr, sym, ◌∙◌, ap, subst, arith}
use Rattle.std.specs.List.{Contains}
use Rattle.std.proofs.lemmas.Bool.{cases_lt}
use Rattle.std.proofs.lemmas.List.{get_or-map, get_or_past, length-map}
use Rattle.lf_graph.specs.Components.{AreNumbers, number_of}
use Rattle.lf_graph.specs.Paths.{IsGraph, after}
use Rattle.lf_graph.specs.views.Search.{IsMet, IsSearch, number_in, state_of}
use Rattle.lf_graph.specs.declared.search.NodeState.TheVariants.{Unmet, Closed}
use Rattle.lf_graph.specs.declared.search.Search.{Search}
use Rattle.lf_laws.proofs.Members.{none_in}
use Rattle.lf_graph.proofs.Nodes.{states, unmet_not}

module _ (edges : List (List ℕ)) (s : Search) (graph : IsGraph edges) (a : IsSearch edges s []) (parts : s.parts.items ≡ []) (met : (u : ℕ) → u < length edges → IsMet s u)
    (numbers : List ℕ) (are : numbers ≡ map number_in s.nodes.items) where
  none_open : (u : ℕ) → u < length s.open.items → ⊥
  none_open u h = let P : List ℕ → Type 0 = λ l. Contains l 0 in none_in 0 (subst P parts (a.parts.first (omega (arith, h))))

  is_closed : (u : ℕ) → u < length edges → (c : ℕ) × (state_of s u ≡ Closed c)
  is_closed u h = elim (states (state_of s u)) [
    | inl e ↦ absurd (unmet_not (state_of s u) e (met u h))
    | inr r ↦ elim r [
      | inl o ↦ absurd (none_open o.0 (a.open_nodes.places u o.0 o.1).0)
      | inr c ↦ c
    ]
  ]

  numbered : (u c : ℕ) → u < length edges → state_of s u ≡ Closed c → number_of numbers u ≡ c
  numbered u c h e =
      let n = a.open_nodes.nodes in
      ap (λ (l : List ℕ). get_or l u 0) are ∙ get_or-map number_in s.nodes.items u Unmet 0 (omega (arith, h, n)) ∙ ap number_in e

  inside : (u v : ℕ) → Contains (after edges u) v → u < length edges
  inside u v c = elim (cases_lt u (length edges)) [
    | inl h ↦ h
    | inr h ↦ let P : List ℕ → Type 0 = λ l. Contains l v in absurd (none_in v (subst P (get_or_past edges u [] h) c))
  ]

  pub are_numbers : AreNumbers edges numbers s.closed
  are_numbers = record {
    nodes = ap length are ∙ length-map s.nodes.items number_in ∙ a.open_nodes.nodes;
    below = λ u h.
        let c = is_closed u h in
        let b = a.closed.below u c.0 c.1 in
        let n = numbered u c.0 h c.1 in
        omega (arith, b, n);
    together = λ u v h k e.
        let c = is_closed u h in
        let d = is_closed v k in
        let f : d.0 ≡ c.0 = sym (numbered v d.0 k d.1) ∙ sym e ∙ numbered u c.0 h c.1 in
        a.closed.together u v c.0 c.1 (d.1 ∙ ap Closed f);
    down = λ u v e.
        let h = inside u v e in
        let k = graph u v e in
        let c = is_closed u h in
        let d = a.closed.down u v c.0 c.1 e in
        let m = numbered u c.0 h c.1 in
        let n = numbered v d.0 k d.1 in
        let l = d.2 in
        omega (arith, m, n, l);
  }
