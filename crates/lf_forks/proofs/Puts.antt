-- Numbers that are put into lists, and names that are marked.
use Rattle.std.proofs.Common.{◌≡◌, ◌<◌, ◌+◌, ◌⊎◌, ◌↔◌, ℕ, true, not, List, [], ◌∷◌, ◌++◌, take, length, get_or, replicate, Some, inl, inr, refl, sym, ◌∙◌, ap, subst, arith}
use Rattle.std.specs.Prelude.{slice_get}
use Rattle.std.specs.List.{Contains, flat_map}
use Rattle.std.proofs.lemmas.Bool.{cases_eq, cases_lt, not-true}
use Rattle.std.proofs.lemmas.Grind.{flat_map-append}
use Rattle.std.proofs.lemmas.List.{append-nil, get_or-replicate, get_or-set_other, get_or-set_same, get_or_past, length-replicate, length-set, take_more}
use Rattle.std.proofs.lemmas.List.Elements.{Contains-append_cases, Contains-append_left, Contains-append_right}
use Rattle.std.proofs.lemmas.Option.{get_or_from_slice_get, slice_get_within}
use Rattle.lf_laws.proofs.Members.{here, none_in, only_one}
use Rattle.lf_ast.specs.Labels.{Bytes}
use Rattle.lf_ast.specs.Rules.{RuleTree}
use Rattle.lf_deps.specs.Reading.{selectors}
use Rattle.lf_deps.specs.views.Links.{source_of}
use Rattle.lf_graph.specs.Paths.{after}
use Rattle.lf_graph.specs.views.Buckets.{put_at}
use Rattle.lf_semantics.specs.Listing.{place}
use Rattle.lf_forks.specs.views.NameMarks.{Marks, NameMarks}
use Rattle.lf_forks.specs.views.Uses.{AreUses, IsUse, Puts}

-- numbers that are put into lists

pub puts_one : (node number : ℕ) (lists after : List (List ℕ)) → node < length lists → after ≡ put_at lists node number → Puts true (node ∷ []) number lists after
puts_one node number lists after within is = record {
  count = ap length is ∙ length-set lists node (get_or lists node [] ++ number ∷ []);
  members = λ v u. elim (cases_eq v node) [
    | inl e ↦
        let P : ℕ → Type 0 = λ w. (Contains (get_or after w []) u → Contains (get_or lists w []) u ⊎ ((true ≡ true) × Contains (node ∷ []) w × (number ≡ u)))
        × (Contains (get_or lists w []) u ⊎ ((true ≡ true) × Contains (node ∷ []) w × (number ≡ u)) → Contains (get_or after w []) u) in
        subst P (sym e) (same u)
    | inr n ↦ other v u n
  ];
}
  where
    now : get_or after node [] ≡ get_or lists node [] ++ number ∷ []
    now = ap (λ (l : List (List ℕ)). get_or l node []) is ∙ get_or-set_same lists node (get_or lists node [] ++ number ∷ []) [] within

    same : (u : ℕ) → Contains (get_or after node []) u ↔ (Contains (get_or lists node []) u ⊎ ((true ≡ true) × Contains (node ∷ []) node × (number ≡ u)))
    same u = (
      λ c. let P : List ℕ → Type 0 = λ l. Contains l u in
          elim (Contains-append_cases (get_or lists node []) (number ∷ []) u (subst P now c)) [ inl d ↦ inl d | inr d ↦ inr (refl, here node [], only_one number u d) ],
      λ s. let P : List ℕ → Type 0 = λ l. Contains l u in
          let Q : ℕ → Type 0 = λ z. Contains (number ∷ []) z in
          subst P (sym now) (elim s [
            | inl c ↦ Contains-append_left (get_or lists node []) (number ∷ []) u c
            | inr d ↦ Contains-append_right (get_or lists node []) (number ∷ []) u (subst Q d.2 (here number []))
          ]),
    )

    other : (v u : ℕ) → (v ≡ node → ⊥) → Contains (get_or after v []) u ↔ (Contains (get_or lists v []) u ⊎ ((true ≡ true) × Contains (node ∷ []) v × (number ≡ u)))
    other v u n =
        let still : get_or after v [] ≡ get_or lists v [] = ap (λ (l : List (List ℕ)). get_or l v []) is ∙ get_or-set_other lists node v (get_or lists node [] ++ number ∷ []) [] n in
        let P : List ℕ → Type 0 = λ l. Contains l u in (
          λ c. inl (subst P still c),
          λ s. elim s [ inl c ↦ subst P (sym still) c | inr d ↦ absurd (n (sym (only_one node v d.1))) ],
        )

pub puts_then : (xs ys : List ℕ) (number : ℕ) (a b c : List (List ℕ)) → Puts true xs number a b → Puts true ys number b c → Puts true (xs ++ ys) number a c
puts_then xs ys number a b c g h = record {
  count = h.count ∙ g.count;
  members = λ v u. (
    λ m. elim ((h.members v u).0 m) [
      | inl n ↦ elim ((g.members v u).0 n) [ inl o ↦ inl o | inr o ↦ inr (refl, Contains-append_left xs ys v o.1, o.2) ]
      | inr n ↦ inr (refl, Contains-append_right xs ys v n.1, n.2)
    ],
    λ s. elim s [
      | inl m ↦ (h.members v u).1 (inl ((g.members v u).1 (inl m)))
      | inr m ↦ elim (Contains-append_cases xs ys v m.1) [ inl n ↦ (h.members v u).1 (inl ((g.members v u).1 (inr (refl, n, m.2)))) | inr n ↦ (h.members v u).1 (inr (refl, n, m.2)) ]
    ],
  );
}

pub flat_next : {X Y : Type 0} (f : X → List Y) (xs : List X) (i : ℕ) (d : X) → i < length xs → flat_map f (take (i + 1) xs) ≡ flat_map f (take i xs) ++ f (get_or xs i d)
flat_next f xs i d h = ap (flat_map f) (take_more xs i d h) ∙ flat_map-append f (take i xs) (get_or xs i d ∷ []) ∙ ap (λ l. flat_map f (take i xs) ++ l) (append-nil (f (get_or xs i d)))

-- those of one selector more
pub puts_more : {X : Type 0} (f : X → List ℕ) (xs : List X) (i : ℕ) (d : X) (number : ℕ) (a b c : List (List ℕ)) → i < length xs → Puts true (flat_map f (take i xs)) number a b → Puts true (f (get_or xs i d)) number b c
    → Puts true (flat_map f (take (i + 1) xs)) number a c
puts_more f xs i d number a b c h g s =
    let P : List ℕ → Type 0 = λ l. Puts true l number a c in
    subst P (sym (flat_next f xs i d h)) (puts_then (flat_map f (take i xs)) (f (get_or xs i d)) number a b c g s)

-- no rule uses anything
pub no_uses : (names : List Bytes) (lists : List (List ℕ)) (n : ℕ) → n ≡ length names + 1 → lists ≡ replicate n [] → AreUses [] names lists
no_uses names lists n size is = record {
  count = ap length is ∙ many ∙ size;
  members = λ v u. (
    λ c. let P : List ℕ → Type 0 = λ l. Contains l u in absurd (none_in u (subst P (empty v) c)),
    λ it. absurd (none_in it.0 it.1),
  );
}
  where
    none : List ℕ
    none = []

    many : length (replicate n none) ≡ n
    many = length-replicate n none

    empty : (v : ℕ) → get_or lists v [] ≡ []
    empty v = ap (λ (l : List (List ℕ)). get_or l v []) is ∙ elim (cases_lt v n) [
      | inl h ↦ get_or-replicate n v none none h
      | inr h ↦ get_or_past (replicate n none) v none (omega (arith, many, h))
    ]

-- and those of one rule more
pub uses_then : (rules : List RuleTree) (names : List Bytes) (r : RuleTree) (a b : List (List ℕ)) → AreUses rules names a → Puts (not r.alert) (flat_map (source_of names) (selectors r.expr)) (place names r.name) a b → AreUses (rules ++ r ∷ []) names b
uses_then rules names r a b is puts = record {
  count = puts.count ∙ is.count;
  members = λ v u. (
    λ c. elim ((puts.members v u).0 c) [
      | inl d ↦ let was = (is.members v u).0 d in (was.0, Contains-append_left rules (r ∷ []) was.0 was.1, was.2)
      | inr d ↦ (r, Contains-append_right rules (r ∷ []) r (here r []), (not-true r.alert d.0, d.2, d.1))
    ],
    λ it. (puts.members v u).1 (elim (Contains-append_cases rules (r ∷ []) it.0 it.1) [
      | inl c ↦ inl ((is.members v u).1 (it.0, c, it.2))
      | inr c ↦ let P : RuleTree → Type 0 = λ s. IsUse names s v u in let own = subst P (sym (only_one r it.0 c)) it.2 in inr (ap not own.0, own.2, own.1)
    ]),
  );
}

pub uses_next : (rules : List RuleTree) (names : List Bytes) (i : ℕ) (r : RuleTree) (a b : List (List ℕ)) → slice_get rules i ≡ Some r → AreUses (take i rules) names a
    → Puts (not r.alert) (flat_map (source_of names) (selectors r.expr)) (place names r.name) a b → AreUses (take (i + 1) rules) names b
uses_next rules names i r a b at is puts =
    let more : take (i + 1) rules ≡ take i rules ++ r ∷ [] = take_more rules i r (slice_get_within rules i r at) ∙ ap (λ (x : RuleTree). take i rules ++ x ∷ []) (get_or_from_slice_get rules i r r at) in
    let P : List RuleTree → Type 0 = λ l. AreUses l names b in
    subst P (sym more) (uses_then (take i rules) names r a b is puts)

-- names that are marked, by their places

pub marks_then : (xs ys : List ℕ) (a b c : NameMarks) → Marks xs a b → Marks ys b c → Marks (xs ++ ys) a c
marks_then xs ys a b c g h = record {
  names = h.names ∙ g.names;
  count = h.count ∙ g.count;
  marked = λ k w. let v : k < length b.marked = omega (arith, w, g.count) in (
    λ t. elim ((h.marked k v).0 t) [
      | inl u ↦ elim ((g.marked k w).0 u) [ inl o ↦ inl o | inr o ↦ inr (Contains-append_left xs ys k o) ]
      | inr o ↦ inr (Contains-append_right xs ys k o)
    ],
    λ s. elim s [
      | inl t ↦ (h.marked k v).1 (inl ((g.marked k w).1 (inl t)))
      | inr o ↦ elim (Contains-append_cases xs ys k o) [ inl p ↦ (h.marked k v).1 (inl ((g.marked k w).1 (inr p))) | inr p ↦ (h.marked k v).1 (inr p) ]
    ],
  );
  without_name = (
    λ t. elim (h.without_name.0 t) [
      | inl u ↦ elim (g.without_name.0 u) [ inl o ↦ inl o | inr o ↦ inr (o.0, Contains-append_left xs ys o.0 o.1) ]
      | inr o ↦ inr (o.0, Contains-append_right xs ys o.0 o.1)
    ],
    λ s. elim s [
      | inl t ↦ h.without_name.1 (inl (g.without_name.1 (inl t)))
      | inr o ↦ elim (Contains-append_cases xs ys o.0 o.1) [ inl p ↦ h.without_name.1 (inl (g.without_name.1 (inr (o.0, p)))) | inr p ↦ h.without_name.1 (inr (o.0, p)) ]
    ],
  );
}

pub marks_next : (nodes : List ℕ) (i : ℕ) (a b c : NameMarks) → i < length nodes → Marks (take i nodes) a b → Marks (get_or nodes i 0 ∷ []) b c → Marks (take (i + 1) nodes) a c
marks_next nodes i a b c h g s =
    let P : List ℕ → Type 0 = λ l. Marks l a c in
    subst P (sym (take_more nodes i 0 h)) (marks_then (take i nodes) (get_or nodes i 0 ∷ []) a b c g s)
