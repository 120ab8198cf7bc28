-- The last part is closed: its nodes are a component.
use Rattle.std.proofs.Common.{◌≡◌, ◌≢◌, ℕ, ◌<◌, ◌≤◌, ◌+◌, ◌-◌, ◌⊎◌, List, [], length, take, drop, get_or, inl, inr, refl, sym, ◌∙◌, ap, subst, arith}
use Rattle.std.specs.List.{Contains}
use Rattle.std.proofs.lemmas.Bool.{cases_eq, cases_lt}
use Rattle.std.proofs.lemmas.List.{get_or-take, get_or_past, length-take}
use Rattle.lf_graph.specs.Paths.{Leads, after}
use Rattle.lf_graph.specs.views.Search.{AreClosed, AreDue, AreOpen, AreParts, IsClosing, IsFollowed, IsMet, IsSearch, NoneDue, from_at, last_part, open_at, state_of, to_at, weight, work}
use Rattle.lf_graph.specs.declared.search.NodeState.TheVariants.{Unmet, Open, Closed}
use Rattle.lf_graph.specs.declared.search.Search.{Search}
use Rattle.lf_laws.proofs.Members.{none_in}
use Rattle.lf_graph.proofs.Lists.{before_last, fewer_rise, from_place, in_front, not_last, there, to_place, up_to_last}
use Rattle.lf_graph.proofs.Nodes.{closed_met, come_same, open_closed, open_met, same_number, same_place, same_weight, states, unmet_closed, unmet_open}

-- where the last part begins
pub begin_within : (edges : List (List ℕ)) (s : Search) → IsSearch edges s [] → 0 < length s.parts.items → last_part s < length s.open.items
begin_within edges s a some = a.parts.within (last_part s) (there s.parts.items (length s.parts.items - 1) (last_part s) (omega (arith, some)) refl)

-- each open node is a node
pub open_within : (edges : List (List ℕ)) (s : Search) → IsSearch edges s [] → (n u : ℕ) → Contains (drop n s.open.items) u → u < length s.nodes.items
open_within edges s a n u c =
    let at = from_place s.open.items n u c in
    let k = ap (λ (v : ℕ). state_of s v) (sym at.3) ∙ a.open_nodes.known at.0 at.2 in
    elim (cases_lt u (length s.nodes.items)) [
      | inl h ↦ h
      | inr h ↦ absurd (unmet_open (state_of s u) at.0 (get_or_past s.nodes.items u Unmet h) k)
    ]

module _ (edges : List (List ℕ)) (s later : Search) (a : IsSearch edges s []) (some : 0 < length s.parts.items) (none : NoneDue s)
    (closing : IsClosing s.closed (drop (last_part s) s.open.items) s.nodes.items later.nodes.items) (opened : later.open.items ≡ take (last_part s) s.open.items)
    (fewer : later.parts.items ≡ take (length s.parts.items - 1) s.parts.items) (due : later.due.items ≡ s.due.items) (counted : later.closed ≡ s.closed + 1) where
  abbrev begin : ℕ
  begin = last_part s

  begins : Contains s.parts.items begin
  begins = there s.parts.items (length s.parts.items - 1) begin (omega (arith, some)) refl

  within : begin < length s.open.items
  within = a.parts.within begin begins

  sizes : length later.open.items ≡ begin
  sizes = let t = length-take begin s.open.items in let e = ap length opened in let w = within in omega (arith, t, e, w)

  -- what becomes of the states
  still_open : (u p : ℕ) → state_of s u ≡ Open p → p < begin → state_of later u ≡ Open p
  still_open u p e h = closing.kept u (λ c.
      let at = from_place s.open.items begin u c in
      let k = a.open_nodes.known at.0 at.2 in
      let g = same_place at.0 p (sym k ∙ ap (λ (v : ℕ). state_of s v) at.3 ∙ e) in
      omega (arith, g, h, at.1)) ∙ e

  closes : (u p : ℕ) → state_of s u ≡ Open p → begin ≤ p → state_of later u ≡ Closed s.closed
  closes u p e h = let f = a.open_nodes.places u p e in closing.closed u (to_place s.open.items begin p u h f.0 f.1)

  not_open : (u : ℕ) → ((p : ℕ) → state_of s u ≡ Open p → ⊥) → state_of later u ≡ state_of s u
  not_open u n = closing.kept u (λ c.
      let at = from_place s.open.items begin u c in
      n at.0 (ap (λ (v : ℕ). state_of s v) (sym at.3) ∙ a.open_nodes.known at.0 at.2))

  still_closed : (u c : ℕ) → state_of s u ≡ Closed c → state_of later u ≡ Closed c
  still_closed u c e = not_open u (λ p f. open_closed (state_of s u) p c f e) ∙ e

  still_unmet : (u : ℕ) → state_of s u ≡ Unmet → state_of later u ≡ Unmet
  still_unmet u e = not_open u (λ p f. unmet_open (state_of s u) p e f) ∙ e

  was_open : (u p : ℕ) → state_of later u ≡ Open p → (state_of s u ≡ Open p) × (p < begin)
  was_open u p e = elim (states (state_of s u)) [
    | inl m ↦ absurd (unmet_open (state_of later u) p (still_unmet u m) e)
    | inr r ↦ elim r [
      | inl o ↦ elim (cases_lt o.0 begin) [
        | inl b ↦
            let f = same_place o.0 p (sym (still_open u o.0 o.1 b) ∙ e) in
            (o.1 ∙ ap Open f, omega (arith, b, f))
        | inr b ↦ absurd (open_closed (state_of later u) p s.closed e (closes u o.0 o.1 b))
      ]
      | inr c ↦ absurd (open_closed (state_of later u) p c.0 e (still_closed u c.0 c.1))
    ]
  ]

  was_closed : (u c : ℕ) → state_of later u ≡ Closed c → (state_of s u ≡ Closed c) ⊎ ((p : ℕ) × (state_of s u ≡ Open p) × (begin ≤ p) × (c ≡ s.closed))
  was_closed u c e = elim (states (state_of s u)) [
    | inl m ↦ absurd (unmet_closed (state_of later u) c (still_unmet u m) e)
    | inr r ↦ elim r [
      | inl o ↦ elim (cases_lt o.0 begin) [
        | inl b ↦ absurd (open_closed (state_of later u) o.0 c (still_open u o.0 o.1 b) e)
        | inr b ↦ inr (o.0, o.1, b, same_number c s.closed (sym e ∙ closes u o.0 o.1 b))
      ]
      | inr d ↦ inl (d.1 ∙ ap Closed (same_number d.0 c (sym (still_closed u d.0 d.1) ∙ e)))
    ]
  ]

  old_place : (p : ℕ) → p < begin → open_at later p ≡ open_at s p
  old_place p h = ap (λ l. get_or l p 0) opened ∙ get_or-take begin s.open.items p 0 h

  was_part : (b : ℕ) → Contains later.parts.items b → Contains s.parts.items b
  was_part b c = let P : List ℕ → Type 0 = λ l. Contains l b in in_front s.parts.items (length s.parts.items - 1) b (subst P fewer c)

  still_part : (b : ℕ) → Contains s.parts.items b → b ≢ begin → Contains later.parts.items b
  still_part b c n = let P : List ℕ → Type 0 = λ l. Contains l b in subst P (sym fewer) (not_last s.parts.items b c n)

  before : (b : ℕ) → Contains later.parts.items b → b < begin
  before b c = let P : List ℕ → Type 0 = λ l. Contains l b in before_last s.parts.items b a.parts.rise (subst P fewer c)

  are_open : AreOpen edges later
  are_open =
      let m = sizes in
      record {
        nodes = closing.count ∙ a.open_nodes.nodes;
        known = λ p h.
            let b : p < begin = omega (arith, h, m) in
            let w = within in
            ap (λ (u : ℕ). state_of later u) (old_place p b) ∙ still_open (open_at s p) p (a.open_nodes.known p (omega (arith, b, w))) b;
        places = λ u p e.
            let o = was_open u p e in
            let f = a.open_nodes.places u p o.0 in
            (omega (arith, o.1, m), old_place p o.1 ∙ f.1);
      }

  are_parts : AreParts edges later
  are_parts =
      let m = sizes in
      let w = within in
      record {
        first = λ h. still_part 0 (a.parts.first (omega (arith, w))) (λ e. omega (arith, e, h, m));
        within = λ b c. let l = before b c in omega (arith, l, m);
        rise = let P : List ℕ → Type 0 = λ l. (i j : ℕ) → i < j → j < length l → get_or l i 0 < get_or l j 0 in
            subst P (sym fewer) (fewer_rise s.parts.items (length s.parts.items - 1) (omega arith) a.parts.rise);
        leads = λ p q h k l.
            let b : p < begin = omega (arith, h, m) in
            let d : q < begin = omega (arith, k, m) in
            let r = a.parts.leads p q (omega (arith, b, w)) (omega (arith, d, w)) (λ x c n. l x (still_part x c (λ e. omega (arith, e, n, b))) n) in
            let P : ℕ → Type 0 = λ v. Leads edges (open_at later p) v in
            let Q : ℕ → Type 0 = λ u. Leads edges u (open_at s q) in
            subst P (sym (old_place q d)) (subst Q (sym (old_place p b)) r);
      }

  -- no edge of the part is due
  due_before : (i : ℕ) → i < length s.due.items → from_at s.due.items i < begin
  due_before i h =
      let n = none (omega (arith, h)) in
      elim (cases_eq i (length s.due.items - 1)) [
        | inl e ↦ let f = ap (λ (k : ℕ). from_at s.due.items k) e in omega (arith, n, f)
        | inr o ↦ let r = a.due.rise i (length s.due.items - 1) (omega (arith, h, o)) (omega (arith, h)) in omega (arith, n, r)
      ]

  followed : (p v : ℕ) → p < begin → IsFollowed s p v → IsFollowed later p v
  followed p v h (inl c) = inl (c.0, still_closed v c.0 c.1)
  followed p v h (inr o) = elim (cases_lt o.0 begin) [
    | inl b ↦ inr (o.0, still_open v o.0 o.1 b, λ x c m. o.2 x (was_part x c) m)
    | inr b ↦ inl (s.closed, closes v o.0 o.1 b)
  ]

  are_due : AreDue edges later []
  are_due =
      let m = sizes in
      let w = within in
      record {
        edge = λ i h.
            let P : ℕ → Type 0 = λ n. i < n in
            let b = subst P (ap length due) h in
            let o = a.due.edge i b in
            let d = due_before i b in
            let f : from_at later.due.items i ≡ from_at s.due.items i = ap (λ l. from_at l i) due in
            let t : to_at later.due.items i ≡ to_at s.due.items i = ap (λ l. to_at l i) due in
            let Q : ℕ → Type 0 = λ u. Contains (after edges u) (to_at s.due.items i) in
            let R : ℕ → Type 0 = λ p. Contains (after edges (open_at later p)) (to_at s.due.items i) in
            let S : ℕ → Type 0 = λ v. Contains (after edges (open_at later (from_at later.due.items i))) v in
            (omega (arith, f, d, m), subst S (sym t) (subst R (sym f) (subst Q (sym (old_place (from_at s.due.items i) d)) o.1)));
        rise = λ i j h k.
            let P : ℕ → Type 0 = λ n. j < n in
            let r = a.due.rise i j h (subst P (ap length due) k) in
            let f : from_at later.due.items i ≡ from_at s.due.items i = ap (λ l. from_at l i) due in
            let g : from_at later.due.items j ≡ from_at s.due.items j = ap (λ l. from_at l j) due in
            omega (arith, r, f, g);
        followed = λ p v h c.
            let b : p < begin = omega (arith, h, m) in
            let P : ℕ → Type 0 = λ u. Contains (after edges u) v in
            elim (a.due.followed p v (omega (arith, b, w)) (subst P (old_place p b) c)) [
              | inl n ↦ inl n
              | inr r ↦ elim r [
                | inl i ↦
                    let e = ap length due in
                    inr (inl (i.0, omega (arith, i.1, e), ap (λ l. from_at l i.0) due ∙ i.2, ap (λ l. to_at l i.0) due ∙ i.3))
                | inr f ↦ inr (inr (followed p v b f))
              ]
            ];
      }

  -- the nodes of the part lead to one another
  part_leads : (u v p q : ℕ) → state_of s u ≡ Open p → state_of s v ≡ Open q → begin ≤ p → begin ≤ q → Leads edges u v
  part_leads u v p q e f h k =
      let i = a.open_nodes.places u p e in
      let j = a.open_nodes.places v q f in
      let r = a.parts.leads p q i.0 j.0 (λ b c m. let x = up_to_last s.parts.items b a.parts.rise c in omega (arith, x, k)) in
      let P : ℕ → Type 0 = λ x. Leads edges u x in
      let Q : ℕ → Type 0 = λ x. Leads edges x (open_at s q) in
      subst P j.1 (subst Q i.1 r)

  together : (u v c : ℕ) → (state_of s u ≡ Closed c) ⊎ ((p : ℕ) × (state_of s u ≡ Open p) × (begin ≤ p) × (c ≡ s.closed)) →
      (state_of s v ≡ Closed c) ⊎ ((p : ℕ) × (state_of s v ≡ Open p) × (begin ≤ p) × (c ≡ s.closed)) → Leads edges u v
  together u v c (inl e) (inl f) = a.closed.together u v c e f
  together u v c (inl e) (inr f) = let b = a.closed.below u c e in let g = f.3 in absurd (omega (arith, b, g))
  together u v c (inr e) (inl f) = let b = a.closed.below v c f in let g = e.3 in absurd (omega (arith, b, g))
  together u v c (inr e) (inr f) = part_leads u v e.0 f.0 e.1 f.1 e.2 f.2

  down : (u v c : ℕ) → (state_of s u ≡ Closed c) ⊎ ((p : ℕ) × (state_of s u ≡ Open p) × (begin ≤ p) × (c ≡ s.closed)) → Contains (after edges u) v →
      (d : ℕ) × (state_of later v ≡ Closed d) × (d ≤ c)
  down u v c (inl e) h = let d = a.closed.down u v c e h in (d.0, still_closed v d.0 d.1, d.2)
  down u v c (inr o) h =
      let at = a.open_nodes.places u o.0 o.1 in
      let P : ℕ → Type 0 = λ x. Contains (after edges x) v in
      by (a.due.followed o.0 v at.0 (subst P (sym at.1) h))
    where
      by : Contains [] v ⊎ (((i : ℕ) × (i < length s.due.items) × (from_at s.due.items i ≡ o.0) × (to_at s.due.items i ≡ v)) ⊎ IsFollowed s o.0 v) →
          (d : ℕ) × (state_of later v ≡ Closed d) × (d ≤ c)
      by (inl n) = absurd (none_in v n)
      by (inr (inl i)) = let b = due_before i.0 i.1 in let e = i.2 in let g = o.2 in absurd (omega (arith, b, e, g))
      by (inr (inr (inl d))) = let b = a.closed.below v d.0 d.1 in let g = o.3 in (d.0, still_closed v d.0 d.1, omega (arith, b, g))
      by (inr (inr (inr q))) =
          let g = o.3 in
          (s.closed, closes v q.0 q.1 (q.2 begin begins o.2), omega (arith, g))

  are_closed : AreClosed edges later
  are_closed = record {
    below = λ u c e. elim (was_closed u c e) [
      | inl f ↦ let b = a.closed.below u c f in omega (arith, b, counted)
      | inr o ↦ let g = o.3 in omega (arith, g, counted)
    ];
    together = λ u v c e f. together u v c (was_closed u c e) (was_closed v c f);
    down = λ u v c e h. down u v c (was_closed u c e) h;
  }

  pub closes_part : IsSearch edges later []
  closes_part = record { open_nodes = are_open; parts = are_parts; due = are_due; closed = are_closed }

  same_weights : (u : ℕ) → weight (state_of later u) ≡ weight (state_of s u)
  same_weights u = elim (states (state_of s u)) [
    | inl m ↦ same_weight (state_of later u) (state_of s u) (still_unmet u m ∙ sym m)
    | inr r ↦ elim r [
      | inl o ↦ elim (cases_lt o.0 begin) [
        | inl b ↦ same_weight (state_of later u) (state_of s u) (still_open u o.0 o.1 b ∙ sym o.1)
        | inr b ↦ closed_met (state_of later u) s.closed (closes u o.0 o.1 b) ∙ sym (open_met (state_of s u) o.0 o.1)
      ]
      | inr c ↦ same_weight (state_of later u) (state_of s u) (still_closed u c.0 c.1 ∙ sym c.1)
    ]
  ]

  pub less : work edges later < work edges s
  less =
      let c = come_same s.nodes.items later.nodes.items edges closing.count same_weights in
      let d = ap length due in
      let t = length-take (length s.parts.items - 1) s.parts.items in
      let p = ap length fewer in
      omega (arith, c, d, t, p, some)

  pub still_met : (u : ℕ) → IsMet s u → IsMet later u
  still_met u m = same_weights u ∙ m
