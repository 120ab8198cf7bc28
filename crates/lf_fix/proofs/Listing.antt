-- What an index lists.
use Rattle.std.proofs.Common.{◌≡◌, ◌≢◌, ℕ, zero, suc, ◌+◌, ◌<◌, ◌≤◌, true, false, cond, nat_lt, List, [], ◌∷◌, ◌++◌, length, get_or, ◌⊎◌, inl, inr, refl, sym, ◌∙◌, ap, subst, arith, length-append}
use Rattle.std.specs.Prelude.{slice_set}
use Rattle.std.specs.List.{AllByRecursion, Contains}
use Rattle.std.proofs.lemmas.Bool.{cases_lt, cases_eq}
use Rattle.std.proofs.lemmas.Bool.Decides.{nat_tests}
use Rattle.std.proofs.lemmas.List.{get_or-set_other, get_or-set_same, get_or_append_left, get_or_past, length-set}
use Rattle.std.proofs.lemmas.List.Elements.{Contains-append_cases, Contains-append_left, Contains-append_right}
use Rattle.lf_ast.specs.Labels.{Bytes}
use Rattle.lf_classes.specs.views.TextSets.{with_text}
use Rattle.lf_semantics.specs.Listing.{place}
use Rattle.lf_laws.proofs.Members.{here, none_in, only_one}
use Rattle.lf_semantics.proofs.Places.{place_last, place_le, same_text}
use Rattle.lf_deps.proofs.Placed.{place_behind, place_front}

-- lists

pub all_map : {X : Type 0} (P Q : X → Type 0) (xs : List X) → ((x : X) → P x → Q x) → AllByRecursion P xs → AllByRecursion Q xs
all_map P Q [] h all = tt
all_map P Q (x ∷ xs) h all = (h x all.0, all_map P Q xs h all.1)

-- an empty list behind others has no member
end_none : (xs : List (List ℕ)) (k : ℕ) → length xs ≤ k → get_or (xs ++ [] ∷ []) k [] ≡ []
end_none [] zero h = refl
end_none [] (suc k) h = refl
end_none (x ∷ xs) zero h = absurd (omega arith)
end_none (x ∷ xs) (suc k) h = end_none xs k (omega arith)

-- A number is put behind those of a name.
module _ (names : List Bytes) (lists : List (List ℕ)) (full : length lists ≡ length names) (name : Bytes) (number : ℕ) where
  abbrev At : List Bytes → List (List ℕ) → Bytes → ℕ → Type 0
  At names lists n k = Contains (get_or lists (place names n) []) k

  abbrev put : List (List ℕ) → List (List ℕ)
  put old = slice_set old (place names name) (get_or old (place names name) [] ++ number ∷ [])

  put_same : (old : List (List ℕ)) → place names name < length old → get_or (put old) (place names name) [] ≡ get_or old (place names name) [] ++ number ∷ []
  put_same old h = get_or-set_same old (place names name) (get_or old (place names name) [] ++ number ∷ []) [] h

  put_other : (old : List (List ℕ)) (j : ℕ) → j ≢ place names name → get_or (put old) j [] ≡ get_or old j []
  put_other old j h = get_or-set_other old (place names name) j (get_or old (place names name) [] ++ number ∷ []) [] h

  put_keeps : (old : List (List ℕ)) → place names name < length old → (j k : ℕ) → Contains (get_or old j []) k → Contains (get_or (put old) j []) k
  put_keeps old h j k c = elim (cases_eq j (place names name)) [
    | inl e ↦
        let P : List ℕ → Type 0 = λ l. Contains l k in
        let Q : ℕ → Type 0 = λ i. Contains (get_or old i []) k in
        let R : ℕ → Type 0 = λ i. Contains (get_or (put old) i []) k in
        subst R (sym e) (subst P (sym (put_same old h)) (Contains-append_left (get_or old (place names name) []) (number ∷ []) k (subst Q e c)))
    | inr n ↦ let P : List ℕ → Type 0 = λ l. Contains l k in subst P (sym (put_other old j n)) c
  ]

  put_there : (old : List (List ℕ)) → place names name < length old → Contains (get_or (put old) (place names name) []) number
  put_there old h =
      let P : List ℕ → Type 0 = λ l. Contains l number in
      subst P (sym (put_same old h)) (Contains-append_right (get_or old (place names name) []) (number ∷ []) number (here number []))

  put_only : (old : List (List ℕ)) → place names name < length old → (j k : ℕ) → Contains (get_or (put old) j []) k → Contains (get_or old j []) k ⊎ ((j ≡ place names name) × (k ≡ number))
  put_only old h j k c = elim (cases_eq j (place names name)) [
    | inl e ↦
        let P : List ℕ → Type 0 = λ l. Contains l k in
        let Q : ℕ → Type 0 = λ i. Contains (get_or (put old) i []) k in
        let R : ℕ → Type 0 = λ i. Contains (get_or old i []) k in
        elim (Contains-append_cases (get_or old (place names name) []) (number ∷ []) k (subst P (put_same old h) (subst Q e c))) [
          | inl l ↦ inl (subst R (sym e) l)
          | inr l ↦ inr (e, sym (only_one number k l))
        ]
    | inr n ↦ let P : List ℕ → Type 0 = λ l. Contains l k in inl (subst P (put_other old j n) c)
  ]

  -- the name was there
  module _ (there : place names name < length names) where
    same_names : with_text names name ≡ names
    same_names = let e : nat_lt (place names name) (length names) ≡ true = grind (arith, nat_tests) in ap (λ b. cond b names (names ++ name ∷ [])) e

    pub old_listed : At (with_text names name) (put lists) name number
    old_listed = let P : List Bytes → Type 0 = λ xs. At xs (put lists) name number in subst P (sym same_names) (put_there lists (omega (arith, there, full)))

    pub old_kept : (n : Bytes) (k : ℕ) → At names lists n k → At (with_text names name) (put lists) n k
    old_kept n k c = let P : List Bytes → Type 0 = λ xs. At xs (put lists) n k in subst P (sym same_names) (put_keeps lists (omega (arith, there, full)) (place names n) k c)

    pub old_only : (n : Bytes) (k : ℕ) → At (with_text names name) (put lists) n k → At names lists n k ⊎ ((k ≡ number) × (n ≡ name))
    old_only n k c =
        let P : List Bytes → Type 0 = λ xs. At xs (put lists) n k in
        elim (put_only lists (omega (arith, there, full)) (place names n) k (subst P same_names c)) [
          | inl l ↦ inl l
          | inr l ↦ inr (l.1, sym (same_text names name n there (sym l.0)))
        ]

  -- the name is new
  module _ (new : length names ≤ place names name) where
    more : List (List ℕ)
    more = lists ++ [] ∷ []

    at_end : place names name ≡ length names
    at_end = let r = place_le names name in omega (arith, new, r)

    within : place names name < length more
    unfolding more
    within = let r : length (lists ++ [] ∷ []) ≡ length lists + 1 = length-append lists ([] ∷ []) in omega (arith, r, full, at_end)

    new_names : with_text names name ≡ names ++ name ∷ []
    new_names = let e : nat_lt (place names name) (length names) ≡ false = grind (arith, nat_tests) in ap (λ b. cond b names (names ++ name ∷ [])) e

    pub new_listed : At (with_text names name) (put (lists ++ [] ∷ [])) name number
    unfolding more
    new_listed =
        let P : List Bytes → Type 0 = λ xs. At xs (put (lists ++ [] ∷ [])) name number in
        let Q : ℕ → Type 0 = λ i. Contains (get_or (put (lists ++ [] ∷ [])) i []) number in
        subst P (sym new_names) (subst Q (at_end ∙ sym (place_last names name new)) (put_there (lists ++ [] ∷ []) within))

    pub new_kept : (n : Bytes) (k : ℕ) → At names lists n k → At (with_text names name) (put (lists ++ [] ∷ [])) n k
    unfolding more
    new_kept n k c = elim (cases_lt (place names n) (length names)) [
      | inl h ↦
          let P : List Bytes → Type 0 = λ xs. At xs (put (lists ++ [] ∷ [])) n k in
          let Q : ℕ → Type 0 = λ i. Contains (get_or (put (lists ++ [] ∷ [])) i []) k in
          let R : List ℕ → Type 0 = λ l. Contains l k in
          subst P (sym new_names) (subst Q (sym (place_front names (name ∷ []) n h)) (put_keeps (lists ++ [] ∷ []) within (place names n) k (subst R (sym (get_or_append_left lists ([] ∷ []) [] (place names n) (omega (arith, h, full)))) c)))
      | inr h ↦ let R : List ℕ → Type 0 = λ l. Contains l k in absurd (none_in k (subst R (get_or_past lists (place names n) [] (omega (arith, h, full))) c))
    ]

    new_at_end : place (names ++ name ∷ []) name ≡ length names
    new_at_end = place_last names name new

    new_place : (n : Bytes) → place (names ++ name ∷ []) n ≡ place names name → n ≡ name
    new_place n e =
        let more_names : length (names ++ name ∷ []) ≡ length names + 1 = length-append names (name ∷ []) in
        sym (same_text (names ++ name ∷ []) name n (omega (arith, new_at_end, more_names)) (new_at_end ∙ sym at_end ∙ sym e))

    before_only : (n : Bytes) (k : ℕ) → Contains (get_or (lists ++ [] ∷ []) (place (names ++ name ∷ []) n) []) k → At names lists n k
    before_only n k c = elim (cases_lt (place names n) (length names)) [
      | inl h ↦
          let Q : ℕ → Type 0 = λ i. Contains (get_or (lists ++ [] ∷ []) i []) k in
          let R : List ℕ → Type 0 = λ l. Contains l k in
          subst R (get_or_append_left lists ([] ∷ []) [] (place names n) (omega (arith, h, full))) (subst Q (place_front names (name ∷ []) n h) c)
      | inr h ↦
          let R : List ℕ → Type 0 = λ l. Contains l k in
          let b = place_behind names (name ∷ []) n (omega (arith, h)) in
          absurd (none_in k (subst R (end_none lists (place (names ++ name ∷ []) n) (omega (arith, b, full))) c))
    ]

    pub new_only : (n : Bytes) (k : ℕ) → At (with_text names name) (put (lists ++ [] ∷ [])) n k → At names lists n k ⊎ ((k ≡ number) × (n ≡ name))
    unfolding more
    new_only n k c =
        let P : List Bytes → Type 0 = λ xs. At xs (put (lists ++ [] ∷ [])) n k in
        elim (put_only (lists ++ [] ∷ []) within (place (names ++ name ∷ []) n) k (subst P new_names c)) [
          | inl l ↦ inl (before_only n k l)
          | inr l ↦ inr (l.1, new_place n l.0)
        ]

-- a name is put into the index, and a number behind those of the name
module _ (names : List Bytes) (lists : List (List ℕ)) (full : length lists ≡ length names) (name : Bytes) (number at : ℕ) (after : List Bytes) (room made : List (List ℕ)) where
  abbrev Put : List Bytes → List (List ℕ) → Type 0
  Put ns ls =
      Contains (get_or ls (place ns name) []) number
      × ((n : Bytes) (k : ℕ) → Contains (get_or lists (place names n) []) k → Contains (get_or ls (place ns n) []) k)
      × (length ls ≡ length ns)
      × ((n : Bytes) (k : ℕ) → Contains (get_or ls (place ns n) []) k → Contains (get_or lists (place names n) []) k ⊎ ((k ≡ number) × (n ≡ name)))

  pub put_listed : after ≡ with_text names name → at ≡ place names name → (at < length lists → room ≡ lists) → (at ≡ length lists → room ≡ lists ++ [] ∷ []) → made ≡ slice_set room at (get_or room at [] ++ number ∷ [])
      → Put after made
  put_listed named placed there new set = elim (cases_lt (place names name) (length names)) [
    | inl h ↦
        let same : room ≡ lists = there (omega (arith, h, placed, full)) in
        let e : made ≡ put names lists full name number lists = set ∙ ap (λ (k : ℕ). slice_set room k (get_or room k [] ++ number ∷ [])) placed ∙ ap (λ (l : List (List ℕ)). put names lists full name number l) same in
        let n : length (put names lists full name number lists) ≡ length (with_text names name) =
        length-set lists (place names name) (get_or lists (place names name) [] ++ number ∷ []) ∙ full ∙ sym (ap length (same_names names lists full name number h)) in
        subst (λ ns. Put ns made) (sym named) (subst (Put (with_text names name)) (sym e) (old_listed names lists full name number h, old_kept names lists full name number h, n, old_only names lists full name number h))
    | inr h ↦
        let end : place names name ≡ length names = at_end names lists full name number h in
        let same : room ≡ lists ++ [] ∷ [] = new (omega (arith, end, placed, full)) in
        let e : made ≡ put names lists full name number (lists ++ [] ∷ []) =
        set ∙ ap (λ (k : ℕ). slice_set room k (get_or room k [] ++ number ∷ [])) placed ∙ ap (λ (l : List (List ℕ)). put names lists full name number l) same in
        let n : length (put names lists full name number (lists ++ [] ∷ [])) ≡ length (with_text names name) =
        length-set (lists ++ [] ∷ []) (place names name) (get_or (lists ++ [] ∷ []) (place names name) [] ++ number ∷ [])
        ∙ length-append lists ([] ∷ [])
        ∙ ap (λ k. k + 1) full
        ∙ sym (length-append names (name ∷ []))
        ∙ sym (ap length (new_names names lists full name number h)) in
        subst (λ ns. Put ns made) (sym named) (subst (Put (with_text names name)) (sym e) (new_listed names lists full name number h, new_kept names lists full name number h, n, new_only names lists full name number h))
  ]
