-- What a row leaves of a label is told by its candidates as by its classes; and the label that stands for a name.
use Rattle.std.proofs.Common.{inl, inr, ◌≡◌, ◌≢◌, ◌<◌, ◌≤◌, ◌^◌, ℕ, zero, suc, ◌+◌, Bool, true, false, not, ◌&&◌, ◌||◌, cond, eqb, List, [], ◌∷◌, get_or, length, Some, is_some, refl, sym, ◌∙◌, ap, ap₂, subst, arith, codes, length-append, true≢false}
use Rattle.std.specs.Prelude.{decimal}
use Rattle.std.specs.List.{Contains, find, list_any}
use Rattle.std.specs.Str.{bytes_eq}
use Rattle.std.proofs.lemmas.Bool.{cases_lt}
use Rattle.std.proofs.lemmas.List.{get_or-append-add, get_or_append_left, get_or_past}
use Rattle.std.proofs.lemmas.List.Sums.{get_or-le-sum_by, sum-map}
use Rattle.std.proofs.lemmas.List.Elements.{Contains-get_or}
use Rattle.std.proofs.Math.Bool.{and-true, and-false, or-false}
use Rattle.lf_laws.proofs.Members.{any_in, any_out, other_false}
use Rattle.lf_ast.specs.Labels.{Bytes}
use Rattle.lf_semantics.specs.ClassRows.{HasShape, Sets, indexed_from}
use Rattle.lf_semantics.specs.Listing.{IsFirstFree, IsListing, Listing, class_count, class_texts, label_of, named_at}
use Rattle.lf_semantics.specs.RowTable.{may_be_absent, may_be_present}
use Rattle.lf_semantics.proofs.ListingLaws.{place_within}
use Rattle.lf_semantics.proofs.Places.{at_place, eqb-other, place_le}
use Rattle.lf_classes.specs.Limits.{most_classes}
use Rattle.lf_flow.proofs.ClassSets.{set_length}
use Rattle.lf_trials.specs.Candidates.{candidates, chosen_from, first_free, has_presence, in_row, is_one_of, labels_in, other_name}
use Rattle.lf_trials.specs.Verdicts.{leaves}
use Rattle.lf_trials.proofs.FirstFree.{candidate_is, other_name_is}
use Rattle.lf_lint.specs.Headline.{label_for}

-- some text is chosen and passes, where each class has a text that passes as the class does
any_chosen : (passes : Bytes → Bool) (test chosen : ℕ → Bool) (a : ℕ) (texts : List Bytes) (set : List Bool) → length texts ≡ length set → ((j c : ℕ) → c ≡ a + j → j < length set → chosen c ≡ get_or set j false)
    → ((j c : ℕ) → c ≡ a + j → j < length set → passes (get_or texts j []) ≡ test c) → is_some (find passes (chosen_from chosen a texts)) ≡ list_any (λ on. on) (indexed_from (λ class on. on && test class) a set)
any_chosen passes test chosen a [] [] n is same = refl
any_chosen passes test chosen a [] (on ∷ set) n is same = absurd (omega (arith, n))
any_chosen passes test chosen a (text ∷ texts) [] n is same = absurd (omega (arith, n))
any_chosen passes test chosen a (text ∷ texts) (on ∷ set) n is same =
    by (chosen a) (passes text) refl refl
    ∙ ap₂ (λ (b q : Bool). (b && q) || is_some (find passes rest)) (is 0 a (omega arith) (omega arith)) (same 0 a (omega arith) (omega arith))
    ∙ ap (λ (r : Bool). (on && test a) || r)
    (any_chosen passes test chosen (suc a) texts set (omega (arith, n)) (λ j c e less. is (suc j) c (omega (arith, e)) (omega (arith, less))) (λ j c e less. same (suc j) c (omega (arith, e)) (omega (arith, less))))
  where
    rest : List Bytes
    rest = chosen_from chosen (suc a) texts

    by : (b q : Bool) → chosen a ≡ b → passes text ≡ q → is_some (find passes (cond (chosen a) (text ∷ chosen_from chosen (suc a) texts) (chosen_from chosen (suc a) texts))) ≡ ((chosen a && passes text) || is_some (find passes (chosen_from chosen (suc a) texts)))
    by true true e f =
        ap (λ (z : Bool). is_some (find passes (cond z (text ∷ chosen_from chosen (suc a) texts) (chosen_from chosen (suc a) texts)))) e
        ∙ ap (λ (z : Bool). is_some (cond z (Some text) (find passes (chosen_from chosen (suc a) texts)))) f
        ∙ sym (ap₂ (λ (z w : Bool). (z && w) || is_some (find passes (chosen_from chosen (suc a) texts))) e f)
    by true false e f =
        ap (λ (z : Bool). is_some (find passes (cond z (text ∷ chosen_from chosen (suc a) texts) (chosen_from chosen (suc a) texts)))) e
        ∙ ap (λ (z : Bool). is_some (cond z (Some text) (find passes (chosen_from chosen (suc a) texts)))) f
        ∙ sym (ap₂ (λ (z w : Bool). (z && w) || is_some (find passes (chosen_from chosen (suc a) texts))) e f)
    by false q e f =
        ap (λ (z : Bool). is_some (find passes (cond z (text ∷ chosen_from chosen (suc a) texts) (chosen_from chosen (suc a) texts)))) e
        ∙ sym (ap (λ (z : Bool). (z && passes text) || is_some (find passes (chosen_from chosen (suc a) texts))) e)

-- no class but the first is the first
none_later : (k : ℕ) (set : List Bool) → list_any (λ on. on) (indexed_from (λ class on. on && eqb class 0) (suc k) set) ≡ false
none_later k [] = refl
none_later k (on ∷ set) =
    ap₂ (λ (b r : Bool). (on && b) || r) (eqb-other (suc k) 0 (λ e. absurd (omega (arith, e)))) (none_later (suc k) set) ∙ or-false (on && false) ∙ and-false on

first_alone : (set : List Bool) → list_any (λ on. on) (indexed_from (λ class on. on && eqb class 0) 0 set) ≡ get_or set 0 false
first_alone [] = refl
first_alone (on ∷ set) = ap (λ (r : Bool). (on && true) || r) (none_later 0 set) ∙ or-false (on && true) ∙ and-true on

module _ (u : Listing) (listing : IsListing u) (name : Bytes) (few : length (named_at u (label_of u name)) < 2 ^ 63) where
  abbrev label : ℕ
  label = label_of u name

  candidate_count : length (candidates u name) ≡ length (named_at u label) + 2
  candidate_count = omega (arith, length-append (class_texts u label) (first_free (codes "v") (named_at u label) ∷ []))

  some_text : (class : ℕ) → 0 < class → class < length (named_at u label) + 2 → get_or (candidates u name) class [] ≢ []
  some_text zero more less e = absurd (omega (arith, more))
  some_text (suc k) more less e = elim (cases_lt k (length (named_at u label))) [
    | inl own ↦ listing.texts_some label (get_or (named_at u label) k []) (Contains-get_or (named_at u label) k [] own) (sym ((candidate_is u name few (suc k)).own (omega (arith, own))) ∙ e)
    | inr last ↦ by ((candidate_is u name few (suc k)).other (omega (arith, last, less)))
  ]
    where
      by : IsFirstFree (codes "v") (named_at u label) (get_or (candidates u name) (suc k) []) → ⊥
      by is = let none : length (get_or (candidates u name) (suc k) []) ≡ 0 = ap length e in let long : length (get_or (candidates u name) (suc k) []) ≡ suc (length (decimal (is.0 + 1))) = ap length is.1 in omega (arith, none, long)

  -- the text of a class, and only of class 0, is the empty one
  is_empty_class : (class : ℕ) → class < length (named_at u label) + 2 → bytes_eq (get_or (candidates u name) class []) [] ≡ eqb class 0
  is_empty_class zero less = refl
  is_empty_class (suc k) less = other_false (get_or (candidates u name) (suc k) []) [] (some_text (suc k) (omega arith) less) ∙ sym (eqb-other (suc k) 0 (λ e. absurd (omega (arith, e))))

  module _ (row : Sets) (shape : HasShape u row) where
    abbrev set : List Bool
    set = get_or row label []

    set_count : length set ≡ length (named_at u label) + 2
    set_count = set_length u row shape label (omega (arith, place_le u.names name, listing.count))

    left_as : (presence : Bool) (test : ℕ → Bool) → ((class : ℕ) → class < length (named_at u label) + 2 → has_presence presence (get_or (candidates u name) class []) ≡ test class)
        → leaves u row name presence ≡ list_any (λ on. on) (indexed_from (λ class on. on && test class) 0 set)
    left_as presence test same =
        any_chosen (has_presence presence) test (in_row u row name) 0 (candidates u name) set (candidate_count ∙ sym set_count)
        (λ j c e less. let at : c ≡ j = omega (arith, e) in ap (λ k. get_or set k false) at)
        (λ j c e less. let at : j ≡ c = omega (arith, e) in same j (omega (arith, less, set_count)) ∙ ap test at)

    pub leaves_present : leaves u row name true ≡ may_be_present u row name
    leaves_present = left_as true (λ class. not (eqb class 0)) (λ class less. ap not (is_empty_class class less))

    pub leaves_absent : leaves u row name false ≡ may_be_absent u row name
    leaves_absent = left_as false (λ class. eqb class 0) is_empty_class ∙ first_alone set

-- the classes of a label are few
pub few_named : (u : Listing) → class_count u ≤ most_classes → (label : ℕ) → length (named_at u label) < 2 ^ 63
few_named u classes label = elim (cases_lt label (length u.named)) [
  | inl less ↦
      let most = get_or-le-sum_by (λ (named : List Bytes). length named + 2) u.named label [] less in
      let all = sum-map (λ (named : List Bytes). length named + 2) u.named in
      omega (arith, most, all, classes)
  | inr least ↦ let none : length (named_at u label) ≡ 0 = ap length (get_or_past u.named label [] least) in omega (arith, none)
]

-- the label that stands for a name

module _ (u : Listing) (few : length u.names < 2 ^ 63) where
  outside : (name : Bytes) → (Contains u.names name → ⊥) → label_of u name ≡ length u.names
  outside name none = elim (cases_lt (label_of u name) (length u.names)) [
    | inl less ↦ absurd (none (subst (Contains u.names) (at_place u.names name less) (Contains-get_or u.names (label_of u name) [] less)))
    | inr most ↦ (let least = place_le u.names name in omega (arith, least, most))
  ]

  not_there : (name : Bytes) → is_one_of u.names name ≡ false → Contains u.names name → ⊥
  not_there name none c = true≢false (sym (any_in name u.names c) ∙ none)

  -- it has the number of the name
  pub label_for_same : (name : Bytes) → label_of u (label_for u name) ≡ label_of u name
  label_for_same name = by (is_one_of u.names name) refl
    where
      by : (b : Bool) → is_one_of u.names name ≡ b → label_of u (cond b name (other_name u)) ≡ label_of u name
      by true is = refl
      by false is = outside (other_name u) ((other_name_is u few).2) ∙ sym (outside name (not_there name is))

  -- and stands at that number
  pub label_for_at : (name : Bytes) → get_or (labels_in u) (label_of u name) [] ≡ label_for u name
  label_for_at name = by (is_one_of u.names name) refl
    where
      by : (b : Bool) → is_one_of u.names name ≡ b → get_or (labels_in u) (label_of u name) [] ≡ cond b name (other_name u)
      by true is =
          let less = place_within u.names name (any_out name u.names is) in
          get_or_append_left u.names (other_name u ∷ []) [] (label_of u name) less ∙ at_place u.names name less
      by false is =
          let last : label_of u name ≡ length u.names + 0 = omega (arith, outside name (not_there name is)) in
          ap (λ k. get_or (labels_in u) k []) last ∙ get_or-append-add u.names (other_name u ∷ []) 0 []
