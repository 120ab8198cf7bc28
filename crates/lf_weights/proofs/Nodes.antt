-- What the components of nodes lead to, and the nodes.
use Rattle.std.proofs.Common.{◌≡◌, ℕ, ◌<◌, ◌≤◌, List, [], length, get_or, refl, sym, ◌∙◌, arith}
use Rattle.std.specs.List.{Contains}
use Rattle.lf_graph.specs.Components.{AreComponents, Components, number_of}
use Rattle.lf_graph.specs.Paths.{Leads, along, nowhere}
use Rattle.lf_graph.proofs.Paths.{onwards}

module _ (edges : List (List ℕ)) (c : Components) (are : AreComponents edges c) where
  pub up : (u v : ℕ) → u < length edges → Leads edges u v → Leads c.nexts (number_of c.numbers u) (number_of c.numbers v)
  up u v h nowhere = nowhere
  up u v h (along w d p) = along (number_of c.numbers w) ((are.nexts (number_of c.numbers u) (number_of c.numbers w)).1 (u, w, h, refl, d, refl)) (up w v (are.graph u w d) p)

  pub back : (k l u v : ℕ) → Leads c.nexts k l → u < length edges → v < length edges → number_of c.numbers u ≡ k → number_of c.numbers v ≡ l → Leads edges u v
  back k l u v nowhere h i e f = are.numbered.together u v h i (e ∙ sym f)
  back k l u v (along m d p) h i e f =
      let next = (are.nexts k m).0 d in
      let rest = back m l next.1 v p (are.graph next.0 next.1 next.4) i next.5 f in
      onwards edges u next.0 v (are.numbered.together u next.0 h next.2 (e ∙ sym next.3)) (along next.1 next.4 rest)

  pub down : (k l : ℕ) → Contains (get_or c.nexts k []) l → l ≤ k
  down k l d =
      let next = (are.nexts k l).0 d in
      let falls = are.numbered.down next.0 next.1 next.4 in
      let from = next.3 in
      let to = next.5 in
      omega (arith, falls, from, to)
