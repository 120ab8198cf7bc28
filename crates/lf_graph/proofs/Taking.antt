-- An edge of the last part that is due is taken out.
use Rattle.std.proofs.Common.{◌≡◌, ℕ, ◌<◌, ◌-◌, ◌⊎◌, List, [], ◌∷◌, length, get_or, inl, inr, sym, ◌∙◌, ap, subst, arith}
use Rattle.std.specs.List.{Contains}
use Rattle.std.proofs.lemmas.Bool.{cases_lt}
use Rattle.std.proofs.lemmas.List.{get_or-take, length-take}
use Rattle.lf_graph.specs.Paths.{IsGraph, Leads, after}
use Rattle.lf_graph.specs.views.Search.{AllLead, IsFollowed, IsSearch, TakesDue, from_at, open_at, to_at, work}
use Rattle.lf_graph.specs.declared.search.Edge.{Edge}
use Rattle.lf_graph.specs.declared.search.Search.{Search}
use Rattle.lf_laws.proofs.Members.{none_in}
use Rattle.lf_graph.proofs.Lists.{up_to_last}
use Rattle.lf_graph.proofs.Paths.{by_edge}

abbrev no_edge : Edge
no_edge = record { «from» = 0; to = 0 }

module _ (edges : List (List ℕ)) (s later : Search) (node : ℕ) (graph : IsGraph edges) (a : IsSearch edges s []) (taken : TakesDue s later node) where
  abbrev last : ℕ
  last = length s.due.items - 1

  abbrev fewer : Search
  fewer = record s { due = later.due }

  sizes : length later.due.items ≡ last
  sizes = let t = length-take last s.due.items in let e = ap length taken.rest in omega (arith, t, e)

  still : (i : ℕ) → i < last → get_or later.due.items i no_edge ≡ get_or s.due.items i no_edge
  still i h = ap (λ l. get_or l i no_edge) taken.rest ∙ get_or-take last s.due.items i no_edge h

  from_still : (i : ℕ) → i < last → from_at later.due.items i ≡ from_at s.due.items i
  from_still i h = ap (λ (e : Edge). e.«from») (still i h)

  to_still : (i : ℕ) → i < last → to_at later.due.items i ≡ to_at s.due.items i
  to_still i h = ap (λ (e : Edge). e.to) (still i h)

  last_edge : (from_at s.due.items last < length s.open.items) × Contains (after edges (open_at s (from_at s.due.items last))) (to_at s.due.items last)
  last_edge = let some = taken.some in a.due.edge last (omega (arith, some))

  takes : IsSearch edges fewer (node ∷ [])
  takes =
      let m = sizes in
      record {
        open_nodes = record { nodes = a.open_nodes.nodes; known = a.open_nodes.known; places = a.open_nodes.places };
        parts = record { first = a.parts.first; within = a.parts.within; rise = a.parts.rise; leads = a.parts.leads };
        due = record {
          edge = λ i h.
              let b : i < last = omega (arith, h, m) in
              let o = a.due.edge i (omega (arith, b)) in
              let f = from_still i b in
              let Q : ℕ → Type 0 = λ p. Contains (after edges (open_at s p)) (to_at s.due.items i) in
              let R : ℕ → Type 0 = λ v. Contains (after edges (open_at s (from_at later.due.items i))) v in
              (omega (arith, f, o.0), subst R (sym (to_still i b)) (subst Q (sym f) o.1));
          rise = λ i j h k.
              let b : j < last = omega (arith, k, m) in
              let r = a.due.rise i j h (omega (arith, b)) in
              let f = from_still i (omega (arith, h, b)) in
              let g = from_still j b in
              omega (arith, r, f, g);
          followed = λ p v h c. followed p v (a.due.followed p v h c);
        };
        closed = record { below = a.closed.below; together = a.closed.together; down = a.closed.down };
      }
    where
      followed : (p v : ℕ) → Contains [] v ⊎ (((i : ℕ) × (i < length s.due.items) × (from_at s.due.items i ≡ p) × (to_at s.due.items i ≡ v)) ⊎ IsFollowed s p v) →
          Contains (node ∷ []) v ⊎ (((i : ℕ) × (i < length later.due.items) × (from_at later.due.items i ≡ p) × (to_at later.due.items i ≡ v)) ⊎ IsFollowed fewer p v)
      followed p v (inl n) = absurd (none_in v n)
      followed p v (inr (inl i)) = elim (cases_lt i.0 last) [
        | inl b ↦ let m = sizes in inr (inl (i.0, omega (arith, b, m), from_still i.0 b ∙ i.2, to_still i.0 b ∙ i.3))
        | inr b ↦
            let e : i.0 ≡ last = omega (arith, b, i.1) in
            inl (0, omega arith, sym taken.to ∙ ap (λ (k : ℕ). to_at s.due.items k) (sym e) ∙ i.3)
      ]
      followed p v (inr (inr f)) = inr (inr f)

  pub takes_later : IsSearch edges later (node ∷ [])
  takes_later = let P : Search → Type 0 = λ x. IsSearch edges x (node ∷ []) in subst P (sym taken.same) takes

  all_lead : AllLead edges fewer node
  all_lead p h =
      let most = taken.last in
      let r = a.parts.leads p (from_at s.due.items last) h last_edge.0 (λ b c m. let u = up_to_last s.parts.items b a.parts.rise c in omega (arith, u, most)) in
      let P : ℕ → Type 0 = λ v. Leads edges (open_at s p) v in
      subst P taken.to (by_edge edges (open_at s p) (open_at s (from_at s.due.items last)) (to_at s.due.items last) r last_edge.1)

  pub all_lead_later : AllLead edges later node
  all_lead_later = let P : Search → Type 0 = λ x. AllLead edges x node in subst P (sym taken.same) all_lead

  pub within : node < length edges
  within = let P : ℕ → Type 0 = λ v. v < length edges in subst P taken.to (graph (open_at s (from_at s.due.items last)) (to_at s.due.items last) last_edge.1)

  pub less : work edges later < work edges s
  less =
      let m = sizes in
      let some = taken.some in
      let P : Search → Type 0 = λ x. work edges x < work edges s in
      subst P (sym taken.same) (omega (arith, m, some))
