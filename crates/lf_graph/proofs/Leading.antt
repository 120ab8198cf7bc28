-- Where edges lead, by the numbers of components.
use Rattle.std.proofs.Common.{◌≡◌, ◌⊎◌, ℕ, ◌<◌, ◌≤◌, List, [], length, get_or, inl, inr, refl, sym, arith}
use Rattle.std.specs.List.{Contains}
use Rattle.std.proofs.lemmas.Bool.{cases_lt}
use Rattle.lf_graph.specs.Components.{AreComponents, AreNumbers, Components, number_of}
use Rattle.lf_graph.specs.Paths.{IsOnCircle, Leads, after}
use Rattle.lf_graph.specs.Paths.Leads.{nowhere, along}
use Rattle.lf_graph.proofs.Paths.{onwards}

-- an edge behind others: there is one before others
edge_first : (edges : List (List ℕ)) (u v w : ℕ) → Leads edges u v → Contains (after edges v) w → (x : ℕ) × Contains (after edges u) x × Leads edges x w
edge_first edges u v w nowhere c = (w, c, nowhere)
edge_first edges u v w (along x d p) c = (x, d, onwards edges x v w p (along w c nowhere))

-- edges lead to no greater number
falls : (edges : List (List ℕ)) (numbers : List ℕ) (count : ℕ) → AreNumbers edges numbers count → (u v : ℕ) → Leads edges u v → number_of numbers v ≤ number_of numbers u
falls edges numbers count are u v nowhere = omega arith
falls edges numbers count are u v (along w c p) =
    let d = are.down u w c in
    let r = falls edges numbers count are w v p in
    omega (arith, d, r)

module _ (edges : List (List ℕ)) (c : Components) (are : AreComponents edges c) where
  abbrev number : ℕ → ℕ
  number u = number_of c.numbers u

  -- a node is on a circle if its component is one of those next to it
  pub circle_to : (u : ℕ) → u < length edges → Contains (get_or c.nexts (number u) []) (number u) → IsOnCircle edges u
  circle_to u h there =
      let next = (are.nexts (number u) (number u)).0 there in
      let first = edge_first edges u next.0 next.1 (are.numbered.together u next.0 h next.2 (sym next.3)) next.4 in
      let back = are.numbered.together next.1 u (are.graph next.0 next.1 next.4) h next.5 in
      (first.0, first.1, onwards edges first.0 next.1 u first.2 back)

  pub circle_from : (u : ℕ) → u < length edges → IsOnCircle edges u → Contains (get_or c.nexts (number u) []) (number u)
  circle_from u h circle =
      let down = are.numbered.down u circle.0 circle.1 in
      let back = falls edges c.numbers (length c.members) are.numbered circle.0 u circle.2 in
      let same : number circle.0 ≡ number u = omega (arith, down, back) in
      (are.nexts (number u) (number u)).1 (u, circle.0, h, refl, circle.1, same)

  -- from a node of a component that comes before a number, and next to another
  abbrev pub IsBelow : ℕ → ℕ → Type 0
  IsBelow k v = (w : ℕ) × (w < length edges) × Contains (get_or c.nexts k []) (number w) × (number w < k) × Leads edges w v

  -- edges from a node end in its component, or they go on from one before it
  pub walk : (k u v : ℕ) → u < length edges → number u ≡ k → Leads edges u v → Contains (get_or c.members k []) v ⊎ IsBelow k v
  walk k u v h e nowhere = inl ((are.members k u).1 (h, e))
  walk k u v h e (along w d p) =
      let down = are.numbered.down u w d in
      let inside = are.graph u w d in
      elim (cases_lt (number w) k) [
        | inl less ↦ inr (w, inside, (are.nexts k (number w)).1 (u, w, h, e, d, refl), less, p)
        | inr more ↦ walk k w v inside (omega (arith, more, down, e)) p
      ]
