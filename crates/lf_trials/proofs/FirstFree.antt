-- The first of `v1`, `v2`, .. that isn't taken is found among one more than there are taken ones; so candidates and the name for `*` are what the universe says.
use Rattle.std.proofs.Common.{inl, inr, ◌≡◌, ◌<◌, ◌≤◌, ◌^◌, ◌⊎◌, ℕ, zero, suc, ◌+◌, Bool, true, false, not, cond, List, [], ◌∷◌, ◌++◌, get_or, map, length, Some, refl, sym, ap, subst, ◌∙◌, codes, arith, true≢false}
use Rattle.std.specs.Prelude.{unwrap_or, slice_index_or}
use Rattle.std.specs.List.{Contains, find, range_with_len}
use Rattle.std.proofs.lemmas.Bool.{cases_lt, not-false}
use Rattle.std.proofs.lemmas.List.{get_or-append-add, get_or_append_left}
use Rattle.lf_laws.proofs.Members.{any_in, any_out}
use Rattle.lf_ast.specs.Labels.{Bytes}
use Rattle.lf_semantics.specs.Listing.{IsCandidate, IsFirstFree, IsOtherName, Listing, class_texts, label_of, named_at, other_class}
use Rattle.lf_semantics.proofs.FreeTexts.{numbered, one_free}
use Rattle.lf_trials.specs.Candidates.{candidates, first_free, is_one_of, other_name}

-- the first of some numbered texts that passes, or none of them does

abbrev IsFound : (ℕ → Bytes) → (Bytes → Bool) → ℕ → ℕ → Type 0
IsFound f test a n = (k : ℕ) × (a ≤ k) × (k < a + n) × (find test (map f (range_with_len a n)) ≡ Some (f k)) × (test (f k) ≡ true) × ((j : ℕ) → a ≤ j → j < k → test (f j) ≡ false)

abbrev NoneIsFound : (ℕ → Bytes) → (Bytes → Bool) → ℕ → ℕ → Type 0
NoneIsFound f test a n = (j : ℕ) → a ≤ j → j < a + n → test (f j) ≡ false

find_first : (f : ℕ → Bytes) (test : Bytes → Bool) (a n : ℕ) → IsFound f test a n ⊎ NoneIsFound f test a n
find_first f test a zero = inr (λ j at less. absurd (omega (arith, at, less)))
find_first f test a (suc n) = by (test (f a)) refl (find_first f test (a + 1) n)
  where
    at_first : (j : ℕ) → a ≤ j → (a ≡ j) ⊎ (a + 1 ≤ j)
    at_first j h = elim (cases_lt a j) [ inl less ↦ inr (omega (arith, less)) | inr least ↦ inl (omega (arith, h, least)) ]

    further : (P : ℕ → Type 0) (j : ℕ) → a ≤ j → P a → (a + 1 ≤ j → P j) → P j
    further P j h of_a later = elim (at_first j h) [ inl e ↦ subst P e of_a | inr behind ↦ later behind ]

    by : (b : Bool) → test (f a) ≡ b → IsFound f test (a + 1) n ⊎ NoneIsFound f test (a + 1) n → IsFound f test a (suc n) ⊎ NoneIsFound f test a (suc n)
    by true is rest = inl (a, omega arith, omega arith, ap (λ (b : Bool). cond b (Some (f a)) (find test (map f (range_with_len (a + 1) n)))) is, is, λ j at less. absurd (omega (arith, at, less)))
    by false is (inl (k, at, within, found, passes, front)) = inl (
      k,
      omega (arith, at),
      omega (arith, within),
      ap (λ (b : Bool). cond b (Some (f a)) (find test (map f (range_with_len (a + 1) n)))) is ∙ found,
      passes,
      λ j h less. further (λ z. test (f z) ≡ false) j h is (λ behind. front j behind less),
    )
    by false is (inr none) = inr (λ j h less. further (λ z. test (f z) ≡ false) j h is (λ behind. none j behind (omega (arith, less))))

-- one of them is free

module _ (letter : ℕ) (taken : List Bytes) (small : length taken < 2 ^ 63) where
  abbrev text : ℕ → Bytes
  text = numbered letter taken small

  abbrev is_free : Bytes → Bool
  is_free t = not (is_one_of taken t)

  free_is_new : (t : Bytes) → is_free t ≡ true → Contains taken t → ⊥
  free_is_new t free c = true≢false (sym free ∙ ap not (any_in t taken c))

  other_is_there : (t : Bytes) → is_free t ≡ false → Contains taken t
  other_is_there t taken_is = any_out t taken (not-false (is_one_of taken t) taken_is)

  found : IsFound text is_free 0 (length taken + 1)
  found = elim (find_first text is_free 0 (length taken + 1)) [
    | inl is ↦ is
    | inr none ↦ absurd (one_free letter taken small (λ j h. other_is_there (text j) (none j (omega arith) (omega (arith, h)))))
  ]

  pub first_free_is : IsFirstFree (letter ∷ []) taken (first_free (letter ∷ []) taken)
  first_free_is =
      let (k, from, within, is, free, front) = found in
      let e : first_free (letter ∷ []) taken ≡ text k = ap (λ o. unwrap_or o []) is in
      (k, e, (λ c. free_is_new (text k) free (subst (λ t. Contains taken t) e c)), λ j less. other_is_there (text j) (front j (omega arith) less))

-- so the name for `*` is the one that the universe says
pub other_name_is : (u : Listing) → length u.names < 2 ^ 63 → IsOtherName u (other_name u)
other_name_is u small = first_free_is 120 u.names small

-- the candidate at the place of a class stands for that class
module _ (u : Listing) (name : Bytes) (small : length (named_at u (label_of u name)) < 2 ^ 63) where
  abbrev label : ℕ
  label = label_of u name

  abbrev free : Bytes
  free = first_free (codes "v") (named_at u label)

  last_place : (class : ℕ) → class ≡ other_class u label → class ≡ length (class_texts u label) + 0
  last_place class is = omega (arith, is)

  at_last : (class : ℕ) → class ≡ other_class u label → slice_index_or (candidates u name) class [] ≡ free
  at_last class is = ap (λ k. get_or (class_texts u label ++ free ∷ []) k []) (last_place class is) ∙ get_or-append-add (class_texts u label) (free ∷ []) 0 []

  pub candidate_is : (class : ℕ) → IsCandidate u (label_of u name) class (slice_index_or (candidates u name) class [])
  candidate_is class = record {
    own = λ less. get_or_append_left (class_texts u label) (free ∷ []) [] class (omega (arith, less));
    other = λ is. subst (IsFirstFree (codes "v") (named_at u label)) (sym (at_last class is)) (first_free_is 118 (named_at u label) small);
  }
