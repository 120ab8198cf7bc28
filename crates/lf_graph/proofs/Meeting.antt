-- A node is met to which the open nodes lead.
use Rattle.std.proofs.Common.{◌≡◌, ◌≢◌, ℕ, ◌<◌, ◌≤◌, ◌+◌, ◌-◌, ◌⊎◌, List, [], ◌∷◌, ◌++◌, length, get_or, inl, inr, refl, sym, ◌∙◌, ap, subst, arith}
use Rattle.std.specs.Prelude.{slice_set}
use Rattle.std.specs.List.{Contains}
use Rattle.std.proofs.lemmas.Bool.{cases_eq, cases_lt}
use Rattle.std.proofs.lemmas.List.{get_or-append_right, get_or-map, get_or-set_other, get_or-set_same, get_or_append_left, get_or_push, length-append, length-map, length-set}
use Rattle.std.proofs.lemmas.List.Elements.{Contains-append_left, Contains-push, Contains-push_cases}
use Rattle.lf_graph.specs.Paths.{Leads, after, nowhere}
use Rattle.lf_graph.specs.views.Search.{AllLead, AreClosed, AreDue, AreOpen, AreParts, IsFollowed, IsLater, IsMet, IsSearch, edges_from, from_at, open_at, state_of, to_at, to_come, work}
use Rattle.lf_graph.specs.declared.search.Edge.{Edge}
use Rattle.lf_graph.specs.declared.search.NodeState.TheVariants.{Unmet, Open, Closed}
use Rattle.lf_graph.specs.declared.search.Search.{Search}
use Rattle.lf_laws.proofs.Members.{only_one}
use Rattle.lf_graph.proofs.Lists.{more_rise, place_of, there}
use Rattle.lf_graph.proofs.Nodes.{come_less, open_closed, open_met, same_place, same_weight, unmet_closed, unmet_open}

abbrev no_edge : Edge
no_edge = record { «from» = 0; to = 0 }

module _ (edges : List (List ℕ)) (s later : Search) (node : ℕ) (within : node < length edges) (a : IsSearch edges s (node ∷ [])) (lead : AllLead edges s node) (unmet : state_of s node ≡ Unmet)
    (nodes : later.nodes.items ≡ slice_set s.nodes.items node (Open (length s.open.items))) (opened : later.open.items ≡ s.open.items ++ node ∷ [])
    (begun : later.parts.items ≡ s.parts.items ++ length s.open.items ∷ []) (added : later.due.items ≡ s.due.items ++ edges_from (length s.open.items) (after edges node))
    (closed : later.closed ≡ s.closed) where
  abbrev size : ℕ
  size = length s.open.items

  node_state : state_of later node ≡ Open size
  node_state =
      let there = a.open_nodes.nodes in
      ap (λ l. get_or l node Unmet) nodes ∙ get_or-set_same s.nodes.items node (Open size) Unmet (omega (arith, within, there))

  other_state : (u : ℕ) → u ≢ node → state_of later u ≡ state_of s u
  other_state u n = ap (λ l. get_or l u Unmet) nodes ∙ get_or-set_other s.nodes.items node u (Open size) Unmet n

  not_open : (u p : ℕ) → state_of s u ≡ Open p → u ≢ node
  not_open u p e f = unmet_open (state_of s u) p (ap (λ (k : ℕ). state_of s k) f ∙ unmet) e

  not_closed : (u c : ℕ) → state_of s u ≡ Closed c → u ≢ node
  not_closed u c e f = unmet_closed (state_of s u) c (ap (λ (k : ℕ). state_of s k) f ∙ unmet) e

  sizes : length later.open.items ≡ size + 1
  sizes = ap length opened ∙ length-append s.open.items (node ∷ [])

  old_place : (p : ℕ) → p < size → open_at later p ≡ open_at s p
  old_place p h = ap (λ l. get_or l p 0) opened ∙ get_or_append_left s.open.items (node ∷ []) 0 p h

  new_place : (p : ℕ) → p ≡ size → open_at later p ≡ node
  new_place p e = ap (λ l. get_or l p 0) opened ∙ get_or_push s.open.items node 0 p (sym e)

  place_cases : (p : ℕ) → p < length later.open.items → (p < size) ⊎ (p ≡ size)
  place_cases p h = elim (cases_lt p size) [
    | inl b ↦ inl b
    | inr b ↦ let e = sizes in inr (omega (arith, h, e, b))
  ]

  part_cases : (b : ℕ) → Contains later.parts.items b → Contains s.parts.items b ⊎ (size ≡ b)
  part_cases b c = let P : List ℕ → Type 0 = λ l. Contains l b in Contains-push_cases s.parts.items size b (subst P begun c)

  old_part : (b : ℕ) → Contains s.parts.items b → Contains later.parts.items b
  old_part b c = let P : List ℕ → Type 0 = λ l. Contains l b in subst P (sym begun) (Contains-append_left s.parts.items (size ∷ []) b c)

  new_part : Contains later.parts.items size
  new_part = let P : List ℕ → Type 0 = λ l. Contains l size in subst P (sym begun) (Contains-push s.parts.items size)

  are_open : AreOpen edges later
  are_open = record {
    nodes = ap length nodes ∙ length-set s.nodes.items node (Open size) ∙ a.open_nodes.nodes;
    known = λ p h. elim (place_cases p h) [
      | inl b ↦
          let k = a.open_nodes.known p b in
          ap (λ (u : ℕ). state_of later u) (old_place p b) ∙ other_state (open_at s p) (not_open (open_at s p) p k) ∙ k
      | inr e ↦ ap (λ (u : ℕ). state_of later u) (new_place p e) ∙ node_state ∙ ap Open (sym e)
    ];
    places = λ u p e. elim (cases_eq u node) [
      | inl f ↦
          let g : size ≡ p = same_place size p (sym node_state ∙ ap (λ (k : ℕ). state_of later k) (sym f) ∙ e) in
          let m = sizes in
          (omega (arith, g, m), new_place p (sym g) ∙ sym f)
      | inr n ↦
          let old = a.open_nodes.places u p (sym (other_state u n) ∙ e) in
          let m = sizes in
          (omega (arith, old.0, m), old_place p old.0 ∙ old.1)
    ];
  }

  are_parts : AreParts edges later
  are_parts =
      let m = sizes in
      record {
        first = λ h. elim (cases_lt 0 size) [
          | inl b ↦ old_part 0 (a.parts.first b)
          | inr b ↦ let P : ℕ → Type 0 = λ k. Contains later.parts.items k in let e : size ≡ 0 = omega (arith, b) in subst P e new_part
        ];
        within = λ b c. elim (part_cases b c) [
          | inl o ↦ let w = a.parts.within b o in omega (arith, w, m)
          | inr e ↦ omega (arith, e, m)
        ];
        rise = let P : List ℕ → Type 0 = λ l. (i j : ℕ) → i < j → j < length l → get_or l i 0 < get_or l j 0 in
            subst P (sym begun) (more_rise s.parts.items size a.parts.rise a.parts.within);
        leads = λ p q h k l. leads p q (place_cases p h) (place_cases q k) l;
      }
    where
      leads : (p q : ℕ) → (p < size) ⊎ (p ≡ size) → (q < size) ⊎ (q ≡ size) → IsLater later.parts.items p q → Leads edges (open_at later p) (open_at later q)
      leads p q (inl h) (inl k) l =
          let P : ℕ → ℕ → Type 0 = λ u v. Leads edges u v in
          let r = a.parts.leads p q h k (λ b c. l b (old_part b c)) in
          subst (λ (v : ℕ). P (open_at later p) v) (sym (old_place q k)) (subst (λ (u : ℕ). P u (open_at s q)) (sym (old_place p h)) r)
      leads p q (inl h) (inr k) l =
          let P : ℕ → ℕ → Type 0 = λ u v. Leads edges u v in
          subst (λ (v : ℕ). P (open_at later p) v) (sym (new_place q k)) (subst (λ (u : ℕ). P u node) (sym (old_place p h)) (lead p h))
      leads p q (inr h) k l =
          let b = l size new_part (omega (arith, h)) in
          let e : p ≡ q = elim k [ inl g ↦ absurd (omega (arith, g, b)) | inr g ↦ omega (arith, g, h) ] in
          let P : ℕ → Type 0 = λ x. Leads edges (open_at later p) (open_at later x) in
          subst P e nowhere

  abbrev new_edges : List Edge
  new_edges = edges_from size (after edges node)

  are_closed : AreClosed edges later
  are_closed =
      let was : (u c : ℕ) → state_of later u ≡ Closed c → state_of s u ≡ Closed c =
      λ u c e. elim (cases_eq u node) [
        | inl f ↦ absurd (open_closed (state_of later u) size c (ap (λ (k : ℕ). state_of later k) f ∙ node_state) e)
        | inr n ↦ sym (other_state u n) ∙ e
      ] in
      record {
        below = λ u c e. let b = a.closed.below u c (was u c e) in let f = closed in omega (arith, b, f);
        together = λ u v c e f. a.closed.together u v c (was u c e) (was v c f);
        down = λ u v c e h.
            let d = a.closed.down u v c (was u c e) h in
            (d.0, other_state v (not_closed v d.0 d.1) ∙ d.1, d.2);
      }

  due_size : length later.due.items ≡ length s.due.items + length (after edges node)
  due_size = ap length added ∙ length-append s.due.items new_edges ∙ ap (λ (k : ℕ). length s.due.items + k) (length-map (after edges node) (λ (v : ℕ). record { «from» = size; to = v }))

  old_edge : (i : ℕ) → i < length s.due.items → get_or later.due.items i no_edge ≡ get_or s.due.items i no_edge
  old_edge i h = ap (λ l. get_or l i no_edge) added ∙ get_or_append_left s.due.items new_edges no_edge i h

  new_edge : (i : ℕ) → length s.due.items ≤ i → i < length later.due.items →
      get_or later.due.items i no_edge ≡ record { «from» = size; to = get_or (after edges node) (i - length s.due.items) 0 }
  new_edge i m h =
      let d = due_size in
      ap (λ l. get_or l i no_edge) added
      ∙ get_or-append_right s.due.items new_edges (length s.due.items) i no_edge refl m
      ∙ get_or-map (λ (v : ℕ). record { «from» = size; to = v }) (after edges node) (i - length s.due.items) 0 no_edge (omega (arith, h, d, m))

  from_old : (i : ℕ) → i < length s.due.items → from_at later.due.items i ≡ from_at s.due.items i
  from_old i h = ap (λ (e : Edge). e.«from») (old_edge i h)

  to_old : (i : ℕ) → i < length s.due.items → to_at later.due.items i ≡ to_at s.due.items i
  to_old i h = ap (λ (e : Edge). e.to) (old_edge i h)

  are_due : AreDue edges later []
  are_due =
      let m = sizes in
      record {
        edge = λ i h. elim (cases_lt i (length s.due.items)) [
          | inl b ↦
              let o = a.due.edge i b in
              let f = from_old i b in
              let g = old_place (from_at s.due.items i) o.0 in
              let P : ℕ → Type 0 = λ u. Contains (after edges u) (to_at s.due.items i) in
              let Q : ℕ → Type 0 = λ p. Contains (after edges (open_at later p)) (to_at s.due.items i) in
              let R : ℕ → Type 0 = λ v. Contains (after edges (open_at later (from_at later.due.items i))) v in
              (omega (arith, f, m, o.0), subst R (sym (to_old i b)) (subst Q (sym f) (subst P (sym g) o.1)))
          | inr b ↦
              let e = new_edge i b h in
              let f : from_at later.due.items i ≡ size = ap (λ (e : Edge). e.«from») e in
              let t : to_at later.due.items i ≡ get_or (after edges node) (i - length s.due.items) 0 = ap (λ (e : Edge). e.to) e in
              let d = due_size in
              let c = there (after edges node) (i - length s.due.items) (get_or (after edges node) (i - length s.due.items) 0) (omega (arith, h, d, b)) refl in
              let P : ℕ → Type 0 = λ u. Contains (after edges u) (get_or (after edges node) (i - length s.due.items) 0) in
              let R : ℕ → Type 0 = λ v. Contains (after edges (open_at later (from_at later.due.items i))) v in
              (omega (arith, f, m), subst R (sym t) (subst P (sym (new_place (from_at later.due.items i) f)) c))
        ];
        rise = λ i j h k. elim (cases_lt j (length s.due.items)) [
          | inl b ↦
              let r = a.due.rise i j h b in
              let f = from_old i (omega (arith, h, b)) in
              let g = from_old j b in
              omega (arith, r, f, g)
          | inr b ↦
              let g : from_at later.due.items j ≡ size = ap (λ (e : Edge). e.«from») (new_edge j b k) in
              elim (cases_lt i (length s.due.items)) [
                | inl d ↦
                    let o = a.due.edge i d in
                    let f = from_old i d in
                    omega (arith, f, g, o.0)
                | inr d ↦
                    let f : from_at later.due.items i ≡ size = ap (λ (e : Edge). e.«from») (new_edge i d (omega (arith, h, k))) in
                    omega (arith, f, g)
              ]
        ];
        followed = λ p v h c. inr (elim (place_cases p h) [
          | inl b ↦ let P : ℕ → Type 0 = λ u. Contains (after edges u) v in followed p v b (a.due.followed p v b (subst P (old_place p b) c))
          | inr e ↦
              let P : ℕ → Type 0 = λ u. Contains (after edges u) v in
              let at = place_of (after edges node) v (subst P (new_place p e) c) in
              let d = due_size in
              let i : ℕ = length s.due.items + at.0 in
              let k : i < length later.due.items = omega (arith, at.1, d) in
              let back : ◌≡◌ {A = ℕ} (i - length s.due.items) at.0 = omega arith in
              let n = new_edge i (omega arith) k in
              inl (i, k, ap (λ (e : Edge). e.«from») n ∙ sym e, ap (λ (e : Edge). e.to) n ∙ ap (λ (j : ℕ). get_or (after edges node) j 0) back ∙ at.2)
        ]);
      }
    where
      followed : (p v : ℕ) → p < size → Contains (node ∷ []) v ⊎ (((i : ℕ) × (i < length s.due.items) × (from_at s.due.items i ≡ p) × (to_at s.due.items i ≡ v)) ⊎ IsFollowed s p v) →
          ((i : ℕ) × (i < length later.due.items) × (from_at later.due.items i ≡ p) × (to_at later.due.items i ≡ v)) ⊎ IsFollowed later p v
      followed p v h (inl one) = inr (inr (
        size,
        ap (λ (k : ℕ). state_of later k) (sym (only_one node v one)) ∙ node_state,
        λ b c m. elim (part_cases b c) [
          | inl o ↦ let w = a.parts.within b o in omega (arith, w)
          | inr e ↦ omega (arith, e)
        ],
      ))
      followed p v h (inr (inl i)) =
          let d = due_size in
          inl (i.0, omega (arith, i.1, d), from_old i.0 i.1 ∙ i.2, to_old i.0 i.1 ∙ i.3)
      followed p v h (inr (inr (inl c))) = inr (inl (c.0, other_state v (not_closed v c.0 c.1) ∙ c.1))
      followed p v h (inr (inr (inr o))) = inr (inr (
        o.0,
        other_state v (not_open v o.0 o.1) ∙ o.1,
        λ b c m. elim (part_cases b c) [
          | inl g ↦ o.2 b g m
          | inr e ↦ absurd (omega (arith, e, m, h))
        ],
      ))

  pub meets : IsSearch edges later []
  meets = record { open_nodes = are_open; parts = are_parts; due = are_due; closed = are_closed }

  pub less : work edges later < work edges s
  less =
      let there = a.open_nodes.nodes in
      let c = come_less s.nodes.items edges node (Open size) (omega (arith, within, there)) within unmet refl in
      let n = ap (λ l. to_come l edges) nodes in
      let d = due_size in
      let p = ap length begun ∙ length-append s.parts.items (size ∷ []) in
      omega (arith, c, n, d, p)

  pub is_met : IsMet later node
  is_met = open_met (state_of later node) size node_state

  pub still_met : (u : ℕ) → IsMet s u → IsMet later u
  still_met u m = elim (cases_eq u node) [
    | inl e ↦ open_met (state_of later u) size (ap (λ (k : ℕ). state_of later k) e ∙ node_state)
    | inr n ↦ same_weight (state_of later u) (state_of s u) (other_state u n) ∙ m
  ]
