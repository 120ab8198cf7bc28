-- Candidates are texts of their classes, and label sets have the texts that are given.
use Rattle.std.proofs.Common.{◌≡◌, ◌≢◌, ◌<◌, ◌≤◌, ◌^◌, ◌⊎◌, inl, inr, ℕ, zero, suc, ◌+◌, Bool, true, false, cond, List, [], ◌∷◌, ◌++◌, length, get_or, Option, Some, None, refl, sym, ◌∙◌, ap, subst, arith, length-append}
use Rattle.std.specs.Prelude.{unwrap_or, slice_index_or, codes}
use Rattle.std.specs.List.{Contains}
use Rattle.std.specs.Option.{option_map_or}
use Rattle.std.specs.Str.{bytes_eq}
use Rattle.std.proofs.lemmas.Bool.{cases_lt}
use Rattle.lf_laws.proofs.Booleans.{clash}
use Rattle.lf_laws.proofs.Members.{any_in, any_out, behind, first_or_behind, here, none_in, same_true, true_same}
use Rattle.lf_ast.specs.Labels.{Bytes}
use Rattle.lf_semantics.specs.Listing.{IsListing, Listing, class_of, class_texts, label_of, named_at, other_class, place}
use Rattle.lf_semantics.specs.Texts.{value_of}
use Rattle.lf_semantics.proofs.LabelTexts.{value-bare, value-with_label}
use Rattle.lf_semantics.proofs.Places.{at_place, place_at, place_le}
use Rattle.lf_trials.specs.Candidates.{candidates, candidates_of, chosen_from, first, is_one_of}
use Rattle.lf_trials.specs.Given.{Given, label_set, with_text}
use Rattle.lf_trials.proofs.FirstFree.{candidate_is}

-- ---- label sets

-- a label that isn't listed has no text
pub set_lacks : (names : List Bytes) (D : Given) (name : Bytes) → (Contains names name → ⊥) → value_of (label_set names D) name ≡ []
set_lacks [] D name out = value-bare name
set_lacks (n ∷ names) D name out = by (set_lacks names D name (λ c. out (behind n names name c))) (D n)
  where
    other : bytes_eq n name ≡ true → ⊥
    other e = out (subst (λ x. Contains (n ∷ names) x) (true_same n name e) (here n names))

    pick : value_of (label_set names D) name ≡ [] → (t : Bytes) (b : Bool) → bytes_eq n name ≡ b → cond b t (value_of (label_set names D) name) ≡ []
    pick later t true e = absurd (other e)
    pick later t false e = later

    by : value_of (label_set names D) name ≡ [] → (o : Option Bytes) → value_of (option_map_or (λ text. with_text n text (label_set names D)) o (label_set names D)) name ≡ []
    by later None = later
    by later (Some []) = later
    by later (Some (c ∷ text)) = value-with_label n (c ∷ text) (label_set names D) name ∙ pick later (c ∷ text) (bytes_eq n name) refl

-- a listed label has the text that is given, and none where nothing is said
pub set_has : (names : List Bytes) (D : Given) (name : Bytes) → Contains names name → value_of (label_set names D) name ≡ unwrap_or (D name) []
set_has [] D name c = absurd (none_in name c)
set_has (n ∷ names) D name c = by (λ d. set_has names D name d) (bytes_eq n name) refl
  where
    Rest : Type 0
    Rest = Contains names name → value_of (label_set names D) name ≡ unwrap_or (D name) []

    decide : Rest → (b : Bool) → is_one_of names name ≡ b → (value_of (label_set names D) name ≡ unwrap_or (D name) []) ⊎ (value_of (label_set names D) name ≡ [])
    decide rest true e = inl (rest (any_out name names e))
    decide rest false e = inr (set_lacks names D name (λ d. clash _ (any_in name names d) e))

    of_rest : Rest → bytes_eq n name ≡ false → value_of (label_set names D) name ≡ unwrap_or (D name) []
    of_rest rest e = elim (first_or_behind n names name c) [ inl q ↦ absurd (clash _ (same_true n name q) e) | inr d ↦ rest d ]

    -- the first one says it
    mine : Rest → (o : Option Bytes) → D name ≡ o → bytes_eq n name ≡ true → value_of (option_map_or (λ text. with_text n text (label_set names D)) o (label_set names D)) name ≡ unwrap_or o []
    mine rest None is e = elim (decide rest (is_one_of names name) refl) [ inl q ↦ q ∙ ap (λ o. unwrap_or o []) is | inr q ↦ q ]
    mine rest (Some []) is e = elim (decide rest (is_one_of names name) refl) [ inl q ↦ q ∙ ap (λ o. unwrap_or o []) is | inr q ↦ q ]
    mine rest (Some (x ∷ text)) is e = value-with_label n (x ∷ text) (label_set names D) name ∙ ap (λ b. cond b (x ∷ text) (value_of (label_set names D) name)) e

    past : (o : Option Bytes) → bytes_eq n name ≡ false → value_of (option_map_or (λ text. with_text n text (label_set names D)) o (label_set names D)) name ≡ value_of (label_set names D) name
    past None e = refl
    past (Some []) e = refl
    past (Some (x ∷ text)) e = value-with_label n (x ∷ text) (label_set names D) name ∙ ap (λ b. cond b (x ∷ text) (value_of (label_set names D) name)) e

    by : Rest → (b : Bool) → bytes_eq n name ≡ b → value_of (label_set (n ∷ names) D) name ≡ unwrap_or (D name) []
    by rest true e =
        ap (λ o. value_of (option_map_or (λ text. with_text n text (label_set names D)) o (label_set names D)) name) (ap D (true_same n name e)) ∙ mine rest (D name) refl e
    by rest false e = past (D n) e ∙ of_rest rest e

-- ---- candidates

-- what stands at a place stands there whatever the default is
pub held_at : (xs : List Bytes) (k : ℕ) (t : Bytes) → k < length xs → get_or xs k [] ≡ t → get_or xs k t ≡ t
held_at [] k t h e = absurd (omega (arith, h))
held_at (x ∷ xs) zero t h e = e
held_at (x ∷ xs) (suc k) t h e = held_at xs k t (omega (arith, h)) e

at_class : (xs : List Bytes) (t : Bytes) → (Contains xs t → ⊥) → length xs ≤ place xs t
at_class xs t out = elim (cases_lt (place xs t) (length xs)) [
  | inl less ↦ absurd (out (
    place xs t,
    less,
    elim (cases_lt (place xs t) (length xs)) [
      | inl h ↦ held_at xs (place xs t) t less (at_place xs t less)
      | inr h ↦ absurd (omega (arith, h, less))
    ],
  ))
  | inr most ↦ omega (arith, most)
]

module _ (u : Listing) (p : IsListing u) (name : Bytes) (small : length (named_at u (label_of u name)) < 2 ^ 63) where
  abbrev l : ℕ
  l = label_of u name

  abbrev texts : List Bytes
  texts = candidates u name

  apart : (k j : ℕ) → k < j → j < other_class u l → get_or (class_texts u l) k [] ≢ get_or (class_texts u l) j []
  apart k zero less h e = absurd (omega (arith, less))
  apart zero (suc j) less h e = p.texts_some l (get_or (named_at u l) j []) (j, omega (arith, h), there (named_at u l) j (omega (arith, h))) (sym e)
    where
      there : (xs : List Bytes) (k : ℕ) → k < length xs → get_or xs k (get_or xs k []) ≡ get_or xs k []
      there [] k h = absurd (omega (arith, h))
      there (x ∷ xs) zero h = refl
      there (x ∷ xs) (suc k) h = there xs k (omega (arith, h))
  apart (suc k) (suc j) less h e = p.texts_distinct l k j (omega (arith, less)) (omega (arith, h)) e

  -- the candidate of a class is of the class
  pub class_of_candidate : (c : ℕ) → c < length (named_at u (label_of u name)) + 2 → class_of u (label_of u name) (slice_index_or (candidates u name) c []) ≡ c
  class_of_candidate c within = elim (cases_lt c (other_class u l)) [
    | inl own ↦ ap (class_of u l) ((candidate_is u name small c).own own) ∙ place_at (class_texts u l) c (omega (arith, own)) (λ k h. apart k c h own)
    | inr most ↦
        let last : c ≡ other_class u l = omega (arith, within, most) in
        let is = (candidate_is u name small c).other last in
        let t = slice_index_or (candidates u name) c [] in
        let some : t ≢ [] = λ e. absurd (no_letter is.0 (sym is.1 ∙ e)) in
        let out : Contains (class_texts u l) t → ⊥ = λ d. elim (first_or_behind [] (named_at u l) t d) [ inl e ↦ some (sym e) | inr d ↦ is.2 d ] in
        let up = at_class (class_texts u l) t out in
        let down = place_le (class_texts u l) t in
        omega (arith, up, down, last)
  ]
    where
      no_letter : (k : ℕ) → codes "v" ++ Rattle.std.specs.Prelude.decimal (k + 1) ≡ [] → ⊥
      no_letter k e = absurd (cc)

-- some texts, of which the chosen ones are taken

of_chosen : (chosen : ℕ → Bool) (k : ℕ) (texts : List Bytes) (t : Bytes) → Contains (chosen_from chosen k texts) t → (c : ℕ) × (c < length texts) × (get_or texts c [] ≡ t) × (chosen (k + c) ≡ true)
of_chosen chosen k [] t there = absurd (none_in t there)
of_chosen chosen k (x ∷ texts) t there = by (chosen k) refl there (of_chosen chosen (suc k) texts t)
  where
    Found : ℕ → List Bytes → Type 0
    Found k texts = (c : ℕ) × (c < length texts) × (get_or texts c [] ≡ t) × (chosen (k + c) ≡ true)

    later : Found (suc k) texts → Found k (x ∷ texts)
    later (c, h, e, is) = (suc c, omega (arith, h), e, subst (λ j. chosen j ≡ true) (let q : suc k + c ≡ k + suc c = omega arith in q) is)

    by : (b : Bool) → chosen k ≡ b → Contains (cond b (x ∷ chosen_from chosen (suc k) texts) (chosen_from chosen (suc k) texts)) t → (Contains (chosen_from chosen (suc k) texts) t → Found (suc k) texts) → Found k (x ∷ texts)
    by true is c rest = elim (first_or_behind x (chosen_from chosen (suc k) texts) t c) [
      | inl e ↦ (0, omega arith, e, subst (λ j. chosen j ≡ true) (let q : k ≡ k + 0 = omega arith in q) is)
      | inr d ↦ later (rest d)
    ]
    by false is c rest = later (rest c)

some_chosen : (chosen : ℕ → Bool) (k : ℕ) (texts : List Bytes) (c : ℕ) → c < length texts → chosen (k + c) ≡ true → (t : Bytes) × (first (chosen_from chosen k texts) ≡ Some t)
some_chosen chosen k [] c h is = absurd (omega (arith, h))
some_chosen chosen k (x ∷ xs) c h is = by (λ c h is. some_chosen chosen (suc k) xs c h is) (chosen k) refl c h is
  where
    by : ((c : ℕ) → c < length xs → chosen (suc k + c) ≡ true → (t : Bytes) × (first (chosen_from chosen (suc k) xs) ≡ Some t)) → (b : Bool) → chosen k ≡ b → (c : ℕ) → c < suc (length xs) → chosen (k + c) ≡ true → (t : Bytes) × (first (cond b (x ∷ chosen_from chosen (suc k) xs) (chosen_from chosen (suc k) xs)) ≡ Some t)
    by rest true e c h is = (x, refl)
    by rest false e zero h is = absurd (clash _ (subst (λ j. chosen j ≡ true) (let q : k + 0 ≡ k = omega arith in q) is) e)
    by rest false e (suc c) h is = rest c (omega (arith, h)) (subst (λ j. chosen j ≡ true) (let q : k + suc c ≡ suc k + c = omega arith in q) is)

pub first_member : (xs : List Bytes) (t : Bytes) → first xs ≡ Some t → Contains xs t
first_member [] t e = absurd (cc)
first_member (x ∷ xs) t e = let q : x ≡ t = cc in subst (λ z. Contains (x ∷ xs) z) q (here x xs)

module _ (u : Listing) (p : IsListing u) (name : Bytes) (small : length (named_at u (label_of u name)) < 2 ^ 63) (chosen : ℕ → Bool) where
  length_candidates : length (candidates u name) ≡ length (named_at u (label_of u name)) + 2
  length_candidates = length-append (class_texts u (label_of u name)) _ ∙ (omega arith)

  -- a candidate is of a chosen class
  pub of_candidates : (t : Bytes) → Contains (candidates_of u name chosen) t → chosen (class_of u (label_of u name) t) ≡ true
  of_candidates t there =
      let found = of_chosen chosen 0 (candidates u name) t there in
      let is : class_of u (label_of u name) t ≡ found.0 =
      ap (class_of u (label_of u name)) (sym found.2) ∙ class_of_candidate u p name small found.0 (let h = found.1 in omega (arith, h, length_candidates)) in
      subst (λ k. chosen k ≡ true) (let q : 0 + found.0 ≡ found.0 = omega arith in q ∙ sym is) found.3

  -- and there is one where a class is chosen
  pub some_candidate : (c : ℕ) → c < length (named_at u (label_of u name)) + 2 → chosen c ≡ true → (t : Bytes) × (first (candidates_of u name chosen) ≡ Some t)
  some_candidate c h is = some_chosen chosen 0 (candidates u name) c (omega (arith, h, length_candidates)) (subst (λ k. chosen k ≡ true) (let q : c ≡ 0 + c = omega arith in q) is)
