-- The order that rules are taken in.
use Rattle.std.proofs.Common.{◌≡◌, ℕ, ◌+◌, ◌<◌, ◌⊎◌, Bool, true, false, not, ◌&&◌, cond, eqb, nat_lt, List, [], ◌∷◌, ◌++◌, length, get_or, replicate, Option, Some, None, inl, inr, refl, sym, ◌∙◌, ap, subst, arith}
use Rattle.std.specs.Prelude.{slice_get, slice_set}
use Rattle.std.specs.List.{Contains, filter, flat_map, range_with_len}
use Rattle.std.proofs.lemmas.Bool.{and_right, cases_eq, eq-eqb, lt-ltb, ltb-true, not-true}
use Rattle.std.proofs.lemmas.List.{append-nil, append_assoc, get_or-replicate, get_or-set_other, get_or-set_same, length-map}
use Rattle.std.proofs.lemmas.List.Elements.{Contains-get_or}
use Rattle.std.proofs.Math.Bool.{and-true}
use Rattle.lf_ast.specs.Labels.{Bytes}
use Rattle.lf_ast.specs.Rules.{RuleTree}
use Rattle.lf_semantics.specs.Environments.{names_recorded, recorded_names}
use Rattle.lf_semantics.specs.Listing.{place}
use Rattle.lf_laws.proofs.Members.{in_flat_map, behind, first_or_behind, here, none_in, of_flat_map, only_one}
use Rattle.lf_laws.proofs.Slices.{member_at}
use Rattle.lf_semantics.proofs.Members.{in_filter, of_filter}
use Rattle.lf_semantics.proofs.ListingLaws.{in_first_seen, place_within}
use Rattle.lf_semantics.proofs.Places.{eqb-other, place_le, same_text}
use Rattle.lf_semantics.proofs.Recorded.{recorded}
use Rattle.lf_deps.specs.views.Links.{IsLinksOf, recorded_at, recorded_by, source_of, waited_by}
use Rattle.lf_deps.specs.Ordering.{IsNext, IsOrderOf, Waits, without}
use Rattle.lf_deps.specs.views.Queue.{IsHeld, IsLeft, IsNextOf, IsReady, IsWhole, TakesNext}
use Rattle.lf_deps.specs.Reading.{SelectsBy, selectors}
use Rattle.lf_deps.specs.declared.links.Links.{Links}
use Rattle.lf_deps.specs.declared.queue.Queue.{Queue}
use Rattle.lf_deps.proofs.Ascending.{filter_ascends, in_range, of_range, one_fewer, range_ascends}
use Rattle.lf_deps.proofs.Numbered.{at_made, made_at}
use Rattle.lf_deps.proofs.Taking.{left_within}

-- the source of a selector

pub source_named : (names : List Bytes) (name : Bytes) (s : ℕ) → Contains (source_of names (Some name)) s → (place names name < length names) × (place names name ≡ s)
source_named names name s c = by (nat_lt (place names name) (length names)) refl c
  where
    by : (b : Bool) → nat_lt (place names name) (length names) ≡ b → Contains (cond b (place names name ∷ []) []) s → (place names name < length names) × (place names name ≡ s)
    by true e d = (ltb-true (place names name) (length names) e, only_one (place names name) s d)
    by false e d = absurd (none_in s d)

pub named_source : (names : List Bytes) (name : Bytes) → place names name < length names → Contains (source_of names (Some name)) (place names name)
named_source names name h =
    let P : Bool → Type 0 = λ b. Contains (cond b (place names name ∷ []) []) (place names name) in
    subst P (sym (lt-ltb (place names name) (length names) h)) (here (place names name) [])

pub source_below : (names : List Bytes) (o : Option Bytes) (s : ℕ) → Contains (source_of names o) s → s < length names + 1
source_below names None s c = let e = only_one (length names) s c in omega (arith, e)
source_below names (Some name) s c = let r = source_named names name s c in omega (arith, r.0, r.1)

-- the sources that a rule records

recorded_source : (names : List Bytes) (r : RuleTree) (s : ℕ) → Contains (recorded_at names r) s → (r.alert ≡ false) × ((place names r.name ≡ s) ⊎ (length names ≡ s))
recorded_source names r s c = by r.alert refl c
  where
    by : (b : Bool) → r.alert ≡ b → Contains (cond b [] (place names r.name ∷ length names ∷ [])) s → (r.alert ≡ false) × ((place names r.name ≡ s) ⊎ (length names ≡ s))
    by true e d = absurd (none_in s d)
    by false e d = (e, elim (first_or_behind (place names r.name) (length names ∷ []) s d) [ inl f ↦ inl f | inr f ↦ inr (only_one (length names) s f) ])

source_recorded : (names : List Bytes) (r : RuleTree) (s : ℕ) → r.alert ≡ false → Contains (place names r.name ∷ length names ∷ []) s → Contains (recorded_at names r) s
source_recorded names r s e c = let P : Bool → Type 0 = λ b. Contains (cond b [] (place names r.name ∷ length names ∷ [])) s in subst P (sym e) c

module _ (rules : List RuleTree) (links : Links) (is : IsLinksOf rules links) where
  abbrev names : List Bytes
  names = recorded_names rules

  abbrev sources_at : RuleTree → List ℕ
  sources_at r = flat_map (source_of names) (selectors r.expr)

  waited_at : (k s : ℕ) → Contains (waited_by links k) s → (r : RuleTree) × (slice_get rules k ≡ Some r) × Contains (sources_at r) s
  waited_at k s c = let P : List (List ℕ) → Type 0 = λ l. Contains (get_or l k []) s in made_at sources_at rules k s (subst P is.waited c)

  recorded_for : (k s : ℕ) → Contains (recorded_by links k) s → (r : RuleTree) × (slice_get rules k ≡ Some r) × Contains (recorded_at names r) s
  recorded_for k s c = let P : List (List ℕ) → Type 0 = λ l. Contains (get_or l k []) s in made_at (recorded_at names) rules k s (subst P is.recorded c)

  pub rules_size : length links.waited ≡ length rules
  rules_size = ap length is.waited ∙ length-map rules sources_at

  pub links_whole : IsWhole links
  links_whole = record {
    rules = ap length is.recorded ∙ length-map rules (recorded_at names) ∙ sym rules_size;
    waited = λ k s c.
        let r = waited_at k s c in
        let o = of_flat_map (source_of names) (selectors r.0.expr) s r.2 in
        let b = source_below names o.0 s o.2 in
        omega (arith, b, is.count);
    recorded = λ k s c.
        let r = recorded_for k s c in
        let p = place_le names r.0.name in
        elim (recorded_source names r.0 s r.2).1 [ inl e ↦ omega (arith, p, e, is.count) | inr e ↦ omega (arith, e, is.count) ];
  }

  module _ (taken : List Bool) (left : List ℕ) (k : ℕ) where
    -- a rule that waits for a rule left is held
    pub waits_held : ((j : ℕ) → Contains left j → IsLeft taken j) → Waits rules left k → IsHeld links taken k
    waits_held still w =
        let other : RuleTree = w.2.2 in
        let j : ℕ = w.2.0 in
        let known : Contains names other.name = in_first_seen (names_recorded rules) other.name (recorded rules other (member_at rules j other w.2.3) w.2.4) in
        let h = place_within names other.name known in
        let P : ℕ → List (List ℕ) → Type 0 = λ s l. Contains (get_or l k []) s in
        let Q : ℕ → List (List ℕ) → Type 0 = λ s l. Contains (get_or l j []) s in
        let C : ℕ → List ℕ → Type 0 = λ s l. Contains l s in
        let waited : (s : ℕ) → Contains (sources_at w.0) s → Contains (waited_by links k) s = λ s c. subst (P s) (sym is.waited) (subst (C s) (sym (at_made sources_at rules k w.0 w.1)) c) in
        let recorded : (s : ℕ) → Contains (recorded_at names other) s → Contains (recorded_by links j) s = λ s c.
        subst (Q s) (sym is.recorded) (subst (C s) (sym (at_made (recorded_at names) rules j other w.2.3)) c) in
        elim w.2.5 [
          | inl c ↦
              let s : ℕ = place names other.name in (
                s,
                waited s (in_flat_map (source_of names) (selectors w.0.expr) (Some other.name) s c (named_source names other.name h)),
                j,
                still j w.2.1,
                recorded s (source_recorded names other s w.2.4 (here s (length names ∷ []))),
              )
          | inr c ↦
              let s : ℕ = length names in (
                s,
                waited s (in_flat_map (source_of names) (selectors w.0.expr) None s c.0 (here s [])),
                j,
                still j w.2.1,
                recorded s (source_recorded names other s w.2.4 (behind (place names other.name) (s ∷ []) s (here s []))),
              )
        ]

    -- and a rule that is held waits for one
    pub held_waits : ((j : ℕ) → IsLeft taken j → Contains left j) → IsHeld links taken k → Waits rules left k
    held_waits still h =
        let w = waited_at k h.0 h.1 in
        let o = of_flat_map (source_of names) (selectors w.0.expr) h.0 w.2 in
        let r = recorded_for h.2 h.0 h.4 in
        let at = recorded_source names r.0 h.0 r.2 in
        (w.0, w.1, (h.2, still h.2 h.3, r.0, r.1, at.0, selects (selectors w.0.expr) o.0 o.1 h.0 o.2 r.0 (recorded rules r.0 (member_at rules h.2 r.0 r.1) at.0) at.1))
      where
        selects : (found : List (Option Bytes)) (o : Option Bytes) → Contains found o → (s : ℕ) → Contains (source_of names o) s → (other : RuleTree) → Contains (names_recorded rules) other.name → (place names other.name ≡ s) ⊎ (length names ≡ s)
            → SelectsBy rules found other.name
        selects found None c s d other known at = inr (c, known)
        selects found (Some name) c s d other known (inl e) =
            let g = source_named names name s d in
            let P : Bytes → Type 0 = λ n. Contains found (Some n) in
            inl (subst P (same_text names name other.name g.0 (g.1 ∙ sym e)) c)
        selects found (Some name) c s d other known (inr e) = let g = source_named names name s d in absurd (omega (arith, g.0, g.1, e))

  pub next_is : (taken : List Bool) (left : List ℕ) (k : ℕ) → ((j : ℕ) → Contains left j → IsLeft taken j) → ((j : ℕ) → IsLeft taken j → Contains left j) → IsNextOf links taken k → IsNext rules left k
  next_is taken left k was still next = (
    still k next.0,
    elim next.1 [
      | inl f ↦ inl (λ w. f.0 (waits_held taken left k was w), λ j c not_waits. f.1 j (was j c) (λ h. not_waits (held_waits taken left j still h)))
      | inr f ↦ inr (λ j c. held_waits taken left j still (f.0 j (was j c)), λ j c. f.1 j (was j c))
    ],
  )

-- the numbers of the rules left

abbrev pub left_of : List Bool → ℕ → List ℕ
left_of taken n = filter (λ j. not (get_or taken j true)) (range_with_len 0 n)

pub of_left : (taken : List Bool) (n j : ℕ) → Contains (left_of taken n) j → IsLeft taken j
of_left taken n j c = not-true (get_or taken j true) (of_filter (λ i. not (get_or taken i true)) (range_with_len 0 n) j c).1

pub in_left : (taken : List Bool) (n j : ℕ) → length taken ≡ n → IsLeft taken j → Contains (left_of taken n) j
in_left taken n j e l = let h = left_within taken j l in in_filter (λ i. not (get_or taken i true)) (range_with_len 0 n) j (in_range n j (omega (arith, h, e))) (ap not l)

filter_twice : (p q r : ℕ → Bool) → ((x : ℕ) → p x ≡ (r x && q x)) → (xs : List ℕ) → filter p xs ≡ filter q (filter r xs)
filter_twice p q r h [] = refl
filter_twice p q r h (x ∷ xs) = ap (λ (b : Bool). cond b (x ∷ filter p xs) (filter p xs)) (h x) ∙ by (r x) (q x) refl (filter_twice p q r h xs)
  where
    by : (a b : Bool) → q x ≡ b → filter p xs ≡ filter q (filter r xs) → cond (a && b) (x ∷ filter p xs) (filter p xs) ≡ filter q (cond a (x ∷ filter r xs) (filter r xs))
    by true true e rest = ap (λ (l : List ℕ). x ∷ l) rest ∙ sym (ap (λ (b : Bool). cond b (x ∷ filter q (filter r xs)) (filter q (filter r xs))) e)
    by true false e rest = rest ∙ sym (ap (λ (b : Bool). cond b (x ∷ filter q (filter r xs)) (filter q (filter r xs))) e)
    by false true e rest = rest
    by false false e rest = rest

pub left_without : (taken : List Bool) (n k : ℕ) → IsLeft taken k → left_of (slice_set taken k true) n ≡ without k (left_of taken n)
left_without taken n k l = filter_twice (λ j. not (get_or (slice_set taken k true) j true)) (λ j. not (eqb j k)) (λ j. not (get_or taken j true)) both (range_with_len 0 n)
  where
    both : (j : ℕ) → not (get_or (slice_set taken k true) j true) ≡ (not (get_or taken j true) && not (eqb j k))
    both j = elim (cases_eq j k) [
      | inl e ↦
          let P : ℕ → Type 0 = λ x. not (get_or (slice_set taken k true) x true) ≡ (not (get_or taken x true) && not (eqb x k)) in
          let it : P k = ap not (get_or-set_same taken k true true (left_within taken k l)) ∙ sym (and_right (not (get_or taken k true)) (not (eqb k k)) (ap not (eq-eqb k k refl))) in
          subst P (sym e) it
      | inr f ↦
          ap not (get_or-set_other taken k j true true f)
          ∙ sym (ap (λ (b : Bool). not (get_or taken j true) && not b) (eqb-other j k f) ∙ and-true (not (get_or taken j true)))
    ]

filter_all : (test : ℕ → Bool) (xs : List ℕ) → ((x : ℕ) → Contains xs x → test x ≡ true) → filter test xs ≡ xs
filter_all test [] h = refl
filter_all test (x ∷ xs) h = ap (λ (b : Bool). cond b (x ∷ filter test xs) (filter test xs)) (h x (here x xs)) ∙ ap (λ (l : List ℕ). x ∷ l) (filter_all test xs (λ y c. h y (behind x xs y c)))

pub all_left : (n : ℕ) → left_of (replicate n false) n ≡ range_with_len 0 n
all_left n = filter_all (λ j. not (get_or (replicate n false) j true)) (range_with_len 0 n) (λ x c. ap not (get_or-replicate n x false true (of_range n x c)))

-- what is left is ordered as the rest of all
abbrev pub OrderGoesOn : List RuleTree → List ℕ → List ℕ → List ℕ → Type 0
OrderGoesOn rules all order left = (rest : List ℕ) → IsOrderOf rules left rest → IsOrderOf rules all (order ++ rest)

pub order_goes_on : (rules : List RuleTree) (all order left : List ℕ) (k : ℕ) → OrderGoesOn rules all order left → IsNext rules left k → OrderGoesOn rules all (order ++ k ∷ []) (without k left)
order_goes_on rules all order left k g next rest is = let P : List ℕ → Type 0 = λ l. IsOrderOf rules all l in subst P (sym (append_assoc order (k ∷ []) rest)) (g (k ∷ rest) (next, is))

pub order_ends : (rules : List RuleTree) (all order : List ℕ) → OrderGoesOn rules all order [] → IsOrderOf rules all order
order_ends rules all order g = let P : List ℕ → Type 0 = λ l. IsOrderOf rules all l in subst P (append-nil order) (g [] refl)

-- one rule more

module _ (rules : List RuleTree) (links : Links) (is : IsLinksOf rules links) (q : Queue) (ready : IsReady links q) where
  abbrev left : List ℕ
  left = left_of q.taken.items (length rules)

  pub taken_size : length q.taken.items ≡ length rules
  taken_size = ready.queue.sizes.taken ∙ rules_size rules links is

  -- while numbers are left there is a rule left
  pub one_left : 0 < length left → (k : ℕ) × IsLeft q.taken.items k
  one_left h = (get_or left 0 0, of_left q.taken.items (length rules) (get_or left 0 0) (Contains-get_or left 0 0 h))

  module _ (k : ℕ) (later : Queue) (takes : TakesNext links q later k) where
    left_on : left_of later.taken.items (length rules) ≡ without k left
    left_on = ap (λ (t : List Bool). left_of t (length rules)) takes.taken ∙ left_without q.taken.items (length rules) k takes.next.0

    pub goes_on : (order : List ℕ) → OrderGoesOn rules (range_with_len 0 (length rules)) order left → OrderGoesOn rules (range_with_len 0 (length rules)) (order ++ k ∷ []) (left_of later.taken.items (length rules))
    goes_on order before =
        let P : List ℕ → Type 0 = λ l. OrderGoesOn rules (range_with_len 0 (length rules)) (order ++ k ∷ []) l in
        let next = next_is rules links is q.taken.items left k (of_left q.taken.items (length rules)) (λ j. in_left q.taken.items (length rules) j taken_size) takes.next in
        subst P (sym left_on) (order_goes_on rules (range_with_len 0 (length rules)) order left k before next)

    pub fewer_left : length left ≡ length (left_of later.taken.items (length rules)) + 1
    fewer_left =
        let ascends = filter_ascends (λ j. not (get_or q.taken.items j true)) 0 (range_with_len 0 (length rules)) (range_ascends 0 (length rules)) in
        let fewer = one_fewer k 0 left ascends (in_left q.taken.items (length rules) k taken_size takes.next.0) in
        let size = ap length left_on in
        omega (arith, fewer, size)
