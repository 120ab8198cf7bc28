-- The first candidate of a label is found class by class.
use Rattle.std.proofs.Common.{inl, inr, ◌≡◌, ◌≢◌, ◌<◌, ◌≤◌, ◌^◌, ℕ, zero, suc, ◌+◌, Bool, true, false, not, ◌&&◌, cond, eqb, List, [], ◌∷◌, get_or, length, Option, Some, None, refl, sym, ◌∙◌, ap, subst, arith, codes, length-append, true≢false}
use Rattle.std.specs.Prelude.{decimal}
use Rattle.std.specs.List.{find}
use Rattle.std.specs.Str.{bytes_eq}
use Rattle.std.proofs.lemmas.Bool.{cases_lt}
use Rattle.std.proofs.lemmas.List.{get_or-map, length-map}
use Rattle.std.proofs.lemmas.List.Elements.{Contains-get_or}
use Rattle.std.proofs.lemmas.List.Sums.{fails_before_first, passes_at_first}
use Rattle.std.proofs.Math.Bool.{and-true, and-false}
use Rattle.lf_laws.proofs.Members.{other_false}
use Rattle.lf_ast.specs.Labels.{Bytes}
use Rattle.lf_semantics.specs.ClassRows.{HasShape, Sets, holds}
use Rattle.lf_semantics.specs.Listing.{IsCandidate, IsFirstFree, Listing, class_texts, label_of, named_at}
use Rattle.lf_semantics.specs.RowTable.{has_class}
use Rattle.lf_semantics.proofs.EffectsRepresent.{has_class_at}
use Rattle.lf_semantics.proofs.Places.{eqb-other}
use Rattle.lf_classes.specs.Limits.{IsWithin}
use Rattle.lf_trials.specs.Candidates.{candidates, candidates_in, candidates_in_both, candidates_of, chosen_from, first, first_free, has_presence}
use Rattle.lf_trials.proofs.FirstFree.{candidate_is}
use Rattle.lf_candidates.specs.views.ClassTexts.{first_held, name_at, text_at}
use Rattle.lf_candidates.proofs.Labelled.{few_named, label_at}

pub first_is_found : (texts : List Bytes) → find (λ text. true) texts ≡ first texts
first_is_found [] = refl
first_is_found (text ∷ texts) = refl

module _ (test : Bytes → Bool) (chosen : ℕ → Bool) where
  skips : (b c : Bool) (text : Bytes) (texts : List Bytes) → test text ≡ c → (b && c) ≡ false → find test (cond b (text ∷ texts) texts) ≡ find test texts
  skips true true text texts is e = absurd (true≢false e)
  skips true false text texts is e = ap (λ (z : Bool). cond z (Some text) (find test texts)) is
  skips false c text texts is e = refl

  takes : (b : Bool) (text : Bytes) (texts : List Bytes) → b ≡ true → test text ≡ true → find test (cond b (text ∷ texts) texts) ≡ Some text
  takes true text texts is passes = ap (λ (z : Bool). cond z (Some text) (find test texts)) passes
  takes false text texts is passes = absurd (true≢false (sym is))

  -- of the texts from class a on: none before the k-th of them is chosen and passes
  abbrev NoneBefore : ℕ → List Bytes → ℕ → Type 0
  NoneBefore a texts k = (j l : ℕ) → l ≡ a + j → j < k → (chosen l && test (get_or texts j [])) ≡ false

  fewer : (a : ℕ) (text : Bytes) (texts : List Bytes) (k : ℕ) → NoneBefore a (text ∷ texts) (suc k) → NoneBefore (suc a) texts k
  fewer a text texts k none j l at less = none (suc j) l (omega (arith, at)) (omega (arith, less))

  pub found_at : (a : ℕ) (texts : List Bytes) (k i : ℕ) → i ≡ a + k → k < length texts → chosen i ≡ true → test (get_or texts k []) ≡ true → NoneBefore a texts k → find test (chosen_from chosen a texts) ≡ Some (get_or texts k [])
  found_at a [] k i at less is passes none = absurd (omega (arith, less))
  found_at a (text ∷ texts) zero i at less is passes none = (let same : a ≡ i = omega (arith, at) in takes (chosen a) text (chosen_from chosen (suc a) texts) (ap chosen same ∙ is) passes)
  found_at a (text ∷ texts) (suc k) i at less is passes none =
      skips (chosen a) (test text) text (chosen_from chosen (suc a) texts) refl (none 0 a (omega arith) (omega arith))
      ∙ found_at (suc a) texts k i (omega (arith, at)) (omega (arith, less)) is passes (fewer a text texts k none)

  pub none_found : (a : ℕ) (texts : List Bytes) → NoneBefore a texts (length texts) → find test (chosen_from chosen a texts) ≡ None
  none_found a [] none = refl
  none_found a (text ∷ texts) none =
      skips (chosen a) (test text) text (chosen_from chosen (suc a) texts) refl (none 0 a (omega arith) (omega arith))
      ∙ none_found (suc a) texts (fewer a text texts (length texts) none)

-- a row has a set for each label
pub row_length : (u : Listing) (row : Sets) → HasShape u row → length row ≡ length u.named
row_length u row shape = sym (length-map row length) ∙ ap length shape ∙ length-map u.named (λ (named : List Bytes). length named + 2)

-- a row has a place for each class of a label
pub set_length : (u : Listing) (row : Sets) → HasShape u row → (label : ℕ) → label < length u.named → length (get_or row label []) ≡ length (named_at u label) + 2
set_length u row shape label h =
    let many : length row ≡ length u.named = row_length u row shape in
    sym (get_or-map length row label [] 0 (omega (arith, h, many))) ∙ ap (λ (counts : List ℕ). get_or counts label 0) shape ∙ get_or-map (λ (named : List Bytes). length named + 2) u.named label [] 0 h

-- a row without a text of a label
pub no_text : (row : Sets) (label : ℕ) → ((u : Listing) → has_class u (λ class. not (eqb class 0)) (get_or row label []) ≡ false) → (class : ℕ) → (holds row label class && not (eqb class 0)) ≡ false
no_text row label none class = by (holds row label class) refl (not (eqb class 0)) refl
  where
    any : Listing
    any = record { names = []; named = [] }

    by : (held : Bool) → holds row label class ≡ held → (some : Bool) → not (eqb class 0) ≡ some → (held && some) ≡ false
    by true is true passes = absurd (true≢false (sym (has_class_at any (λ class. not (eqb class 0)) row label class is passes) ∙ none any))
    by true is false passes = refl
    by false is some passes = refl

-- a row without the absence of a label
pub no_absence : (row : Sets) (label : ℕ) → holds row label 0 ≡ false → (class : ℕ) → (holds row label class && eqb class 0) ≡ false
no_absence row label none zero = and-true (holds row label 0) ∙ none
no_absence row label none (suc k) = ap (λ (b : Bool). holds row label (suc k) && b) (eqb-other (suc k) 0 (λ e. absurd (omega (arith, e)))) ∙ and-false (holds row label (suc k))

-- all texts are chosen
pub all_chosen : (k : ℕ) (texts : List Bytes) → chosen_from (λ class. true) k texts ≡ texts
all_chosen k [] = refl
all_chosen k (text ∷ texts) = ap (λ (xs : List Bytes). text ∷ xs) (all_chosen (suc k) texts)

module _ (u : Listing) (within : IsWithin u) (label : ℕ) (h : label < length u.named) where
  abbrev name : Bytes
  name = name_at u label

  named_few : length (named_at u label) < 2 ^ 63
  named_few = few_named u within label

  -- how many candidates a label has
  pub candidate_count : length (candidates u name) ≡ length (named_at u label) + 2
  candidate_count =
      let more = length-append (class_texts u (label_of u name)) (first_free (codes "v") (named_at u (label_of u name)) ∷ []) in
      let same : length (named_at u (label_of u name)) ≡ length (named_at u label) = ap (λ l. length (named_at u l)) (label_at u within label h) in
      omega (arith, more, same)

  -- the text of a class, and only of class 0, is the empty one
  pub candidate_at : (class : ℕ) → IsCandidate u label class (text_at u label class)
  candidate_at class = subst (λ l. IsCandidate u l class (text_at u label class)) (label_at u within label h) (candidate_is u name (subst (λ l. length (named_at u l) < 2 ^ 63) (sym (label_at u within label h)) named_few) class)

  some_text : (class : ℕ) → 0 < class → class < length (named_at u label) + 2 → text_at u label class ≢ []
  some_text zero more less e = absurd (omega (arith, more))
  some_text (suc k) more less e = elim (cases_lt k (length (named_at u label))) [
    | inl own ↦ within.listing.texts_some label (get_or (named_at u label) k []) (Contains-get_or (named_at u label) k [] own) (sym ((candidate_at (suc k)).own (omega (arith, own))) ∙ e)
    | inr last ↦ by ((candidate_at (suc k)).other (omega (arith, last, less)))
  ]
    where
      by : IsFirstFree (codes "v") (named_at u label) (text_at u label (suc k)) → ⊥
      by is = let none : length (text_at u label (suc k)) ≡ 0 = ap length e in let long : length (text_at u label (suc k)) ≡ suc (length (decimal (is.0 + 1))) = ap length is.1 in omega (arith, none, long)

  pub is_empty_class : (class : ℕ) → class < length (named_at u label) + 2 → bytes_eq (text_at u label class) [] ≡ eqb class 0
  is_empty_class zero less = refl
  is_empty_class (suc k) less = other_false (text_at u label (suc k)) [] (some_text (suc k) (omega arith) less) ∙ sym (eqb-other (suc k) 0 (λ e. absurd (omega (arith, e))))

  pub presence_of : (presence : Bool) (class : ℕ) → class < length (named_at u label) + 2 → has_presence presence (text_at u label class) ≡ cond presence (not (eqb class 0)) (eqb class 0)
  presence_of true class less = ap not (is_empty_class class less)
  presence_of false class less = is_empty_class class less

  -- the first candidate that is chosen and passes

  module _ (test : Bytes → Bool) (chosen : ℕ → Bool) where
    pub found_is : (class : ℕ) → class < length (named_at u label) + 2 → chosen class ≡ true → test (text_at u label class) ≡ true → ((j : ℕ) → j < class → (chosen j && test (text_at u label j)) ≡ false) → Some (text_at u label class) ≡ find test (candidates_of u name chosen)
    found_is class less is passes none =
        sym (found_at test chosen 0 (candidates u name) class class (omega arith) (omega (arith, less, candidate_count)) is passes
        (λ j l at before. subst (λ z. (chosen z && test (text_at u label j)) ≡ false) (let same : j ≡ l = omega (arith, at) in same) (none j before)))

    pub none_is : ((j : ℕ) → j < length (named_at u label) + 2 → (chosen j && test (text_at u label j)) ≡ false) → None ≡ find test (candidates_of u name chosen)
    none_is none =
        sym (none_found test chosen 0 (candidates u name)
        (λ j l at before. subst (λ z. (chosen z && test (text_at u label j)) ≡ false) (let same : j ≡ l = omega (arith, at) in same) (none j (omega (arith, before, candidate_count)))))

  -- the first candidate that passes

  module _ (test : Bytes → Bool) where
    pub first_passing : (class : ℕ) → class < length (named_at u label) + 2 → test (text_at u label class) ≡ true → ((j : ℕ) → j < class → test (text_at u label j) ≡ false) → Some (text_at u label class) ≡ find test (candidates u name)
    first_passing class less passes none = found_is test (λ class. true) class less refl passes none ∙ ap (find test) (all_chosen 0 (candidates u name))

    pub none_passing : ((j : ℕ) → j < length (named_at u label) + 2 → test (text_at u label j) ≡ false) → None ≡ find test (candidates u name)
    none_passing none = none_is test (λ class. true) none ∙ ap (find test) (all_chosen 0 (candidates u name))

  -- of a row, whose label has that name

  in_set : (test : Bytes → Bool) (row : Sets) (found : Option Bytes) → found ≡ find test (candidates_of u name (holds row label)) → found ≡ find test (candidates_in u row name)
  in_set test row found is = subst (λ l. found ≡ find test (candidates_of u name (λ class. holds row l class))) (sym (label_at u within label h)) is

  in_sets : (row other : Sets) (found : Option Bytes) → found ≡ first (candidates_of u name (λ class. holds row label class && holds other label class)) → found ≡ first (candidates_in_both u row other name)
  in_sets row other found is = subst (λ l. found ≡ first (candidates_of u name (λ class. holds row l class && holds other l class))) (sym (label_at u within label h)) is

  pub first_in_row : (row : Sets) (class : ℕ) → class < length (named_at u label) + 2 → holds row label class ≡ true → ((j : ℕ) → j < class → holds row label j ≡ false) → Some (text_at u label class) ≡ first (candidates_in u row name)
  first_in_row row class less is none =
      in_set (λ text. true) row (Some (text_at u label class)) (found_is (λ text. true) (holds row label) class less is refl (λ j before. and-true (holds row label j) ∙ none j before))
      ∙ first_is_found (candidates_in u row name)

  pub none_in_row : (row : Sets) → ((j : ℕ) → j < length (named_at u label) + 2 → holds row label j ≡ false) → None ≡ first (candidates_in u row name)
  none_in_row row none =
      in_set (λ text. true) row None (none_is (λ text. true) (holds row label) (λ j before. and-true (holds row label j) ∙ none j before))
      ∙ first_is_found (candidates_in u row name)

  -- by the first class that the row has

  module _ (row : Sets) (shape : HasShape u row) (held : ℕ) (is : held ≡ first_held row label) where
    room : length (get_or row label []) ≡ length (named_at u label) + 2
    room = set_length u row shape label h

    pub first_by_held : held < length (named_at u label) + 2 → Some (text_at u label held) ≡ first (candidates_in u row name)
    first_by_held less =
        subst (λ k. Some (text_at u label k) ≡ first (candidates_in u row name)) (sym is)
        (first_in_row row (first_held row label) (omega (arith, is, less)) (passes_at_first (λ (on : Bool). on) (get_or row label []) false (omega (arith, is, less, room)))
        (λ j before. fails_before_first (λ (on : Bool). on) (get_or row label []) j false before))

    pub none_by_held : length (named_at u label) + 2 ≤ held → None ≡ first (candidates_in u row name)
    none_by_held most = none_in_row row (λ j less. fails_before_first (λ (on : Bool). on) (get_or row label []) j false (omega (arith, is, less, most)))

  pub first_in_both : (row other : Sets) (class : ℕ) → class < length (named_at u label) + 2 → holds row label class ≡ true → holds other label class ≡ true → ((j : ℕ) → j < class → (holds row label j && holds other label j) ≡ false) → Some (text_at u label class) ≡ first (candidates_in_both u row other name)
  first_in_both row other class less is too none =
      let both : ℕ → Bool = λ class. holds row label class && holds other label class in
      let here : both class ≡ true = ap (λ (b : Bool). b && holds other label class) is ∙ too in
      in_sets row other (Some (text_at u label class)) (found_is (λ text. true) both class less here refl (λ j before. and-true (both j) ∙ none j before) ∙ first_is_found (candidates_of u name both))

  pub none_in_both : (row other : Sets) → ((j : ℕ) → j < length (named_at u label) + 2 → (holds row label j && holds other label j) ≡ false) → None ≡ first (candidates_in_both u row other name)
  none_in_both row other none =
      let both : ℕ → Bool = λ class. holds row label class && holds other label class in
      in_sets row other None (none_is (λ text. true) both (λ j before. and-true (both j) ∙ none j before) ∙ first_is_found (candidates_of u name both))

  pub first_with : (presence : Bool) (row : Sets) (class : ℕ) → class < length (named_at u label) + 2 → holds row label class ≡ true → cond presence (not (eqb class 0)) (eqb class 0) ≡ true
      → ((j : ℕ) → j < class → (holds row label j && has_presence presence (text_at u label j)) ≡ false) → Some (text_at u label class) ≡ find (has_presence presence) (candidates_in u row name)
  first_with presence row class less is passes none =
      in_set (has_presence presence) row (Some (text_at u label class)) (found_is (has_presence presence) (holds row label) class less is (presence_of presence class less ∙ passes) none)

  pub none_with : (presence : Bool) (row : Sets) → ((j : ℕ) → j < length (named_at u label) + 2 → (holds row label j && has_presence presence (text_at u label j)) ≡ false) → None ≡ find (has_presence presence) (candidates_in u row name)
  none_with presence row none = in_set (has_presence presence) row None (none_is (has_presence presence) (holds row label) none)
