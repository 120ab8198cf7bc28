-- An edge leads back to an open node, so that the parts from its own on become one; or it leads to a closed node.
use Rattle.std.proofs.Common.{◌≡◌, ℕ, ◌<◌, ◌≤◌, ◌↔◌, List, [], ◌∷◌, length, inl, inr, sym, ◌∙◌, ap, subst, arith}
use Rattle.std.specs.List.{Contains}
use Rattle.std.proofs.lemmas.Bool.{cases_lt}
use Rattle.lf_laws.specs.Ascending.{AreAscending}
use Rattle.lf_graph.specs.Paths.{Leads}
use Rattle.lf_graph.specs.views.Search.{AllLead, IsLater, IsSearch, open_at, state_of}
use Rattle.lf_graph.specs.declared.search.NodeState.TheVariants.{Open, Closed}
use Rattle.lf_graph.specs.declared.search.Search.{Search}
use Rattle.lf_laws.proofs.Members.{only_one}
use Rattle.lf_graph.proofs.Paths.{onwards}

-- the node is closed already
pub at_closed : (edges : List (List ℕ)) (s : Search) (node c : ℕ) → IsSearch edges s (node ∷ []) → state_of s node ≡ Closed c → IsSearch edges s []
at_closed edges s node c a e = record {
  open_nodes = a.open_nodes;
  parts = a.parts;
  due = record {
    edge = a.due.edge;
    rise = a.due.rise;
    followed = λ p v h b. elim (a.due.followed p v h b) [
      | inl one ↦ inr (inr (inl (c, ap (λ (k : ℕ). state_of s k) (sym (only_one node v one)) ∙ e)))
      | inr r ↦ inr r
    ];
  };
  closed = a.closed;
}

module _ (edges : List (List ℕ)) (s later : Search) (node place : ℕ) (a : IsSearch edges s (node ∷ [])) (lead : AllLead edges s node) (at : state_of s node ≡ Open place)
    (same : later ≡ record s { parts = later.parts }) (rise : AreAscending later.parts.items) (kept : (b : ℕ) → Contains later.parts.items b ↔ (Contains s.parts.items b × (b ≤ place))) where
  abbrev joined : Search
  joined = record s { parts = later.parts }

  still : (b : ℕ) → Contains s.parts.items b → b ≤ place → Contains later.parts.items b
  still b c h = (kept b).1 (c, h)

  was : (b : ℕ) → Contains later.parts.items b → Contains s.parts.items b
  was b c = ((kept b).0 c).0

  up_to : (b : ℕ) → Contains later.parts.items b → b ≤ place
  up_to b c = ((kept b).0 c).1

  leads : (p q : ℕ) → p < length s.open.items → q < length s.open.items → IsLater later.parts.items p q → Leads edges (open_at s p) (open_at s q)
  leads p q h k l = elim (cases_lt place p) [
    | inl b ↦
        let found = a.open_nodes.places node place at in
        let P : ℕ → Type 0 = λ u. Leads edges u (open_at s q) in
        let back = a.parts.leads place q found.0 k (λ d c m. l d (still d c m) (omega (arith, m, b))) in
        onwards edges (open_at s p) node (open_at s q) (lead p h) (subst P found.1 back)
    | inr b ↦ a.parts.leads p q h k (λ d c m. l d (still d c (omega (arith, m, b))) m)
  ]

  pub joins : IsSearch edges joined []
  joins = record {
    open_nodes = record { nodes = a.open_nodes.nodes; known = a.open_nodes.known; places = a.open_nodes.places };
    parts = record {
      first = λ h. still 0 (a.parts.first h) (omega arith);
      within = λ b c. a.parts.within b (was b c);
      rise = rise;
      leads = leads;
    };
    due = record {
      edge = a.due.edge;
      rise = a.due.rise;
      followed = λ p v h b. elim (a.due.followed p v h b) [
        | inl one ↦ inr (inr (inr (place, ap (λ (k : ℕ). state_of s k) (sym (only_one node v one)) ∙ at, λ d c m. up_to d c)))
        | inr r ↦ elim r [
          | inl i ↦ inr (inl i)
          | inr f ↦ elim f [
            | inl d ↦ inr (inr (inl d))
            | inr o ↦ inr (inr (inr (o.0, o.1, λ d c m. o.2 d (was d c) m)))
          ]
        ]
      ];
    };
    closed = record { below = a.closed.below; together = a.closed.together; down = a.closed.down };
  }

  pub joins_later : IsSearch edges later []
  joins_later = let P : Search → Type 0 = λ x. IsSearch edges x [] in subst P (sym same) joins
