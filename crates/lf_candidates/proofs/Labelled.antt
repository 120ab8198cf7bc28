-- Labels of a universe and their names: the name of a number has that number, and one name alone stands for `*`.
use Rattle.std.proofs.Common.{◌≡◌, ◌<◌, ◌^◌, inl, inr, ℕ, ◌+◌, List, [], ◌∷◌, ◌++◌, length, sym, ◌∙◌, ap, subst, arith, codes}
use Rattle.std.specs.Prelude.{decimal}
use Rattle.std.specs.List.{Contains}
use Rattle.std.proofs.lemmas.Bool.{cases_lt}
use Rattle.std.proofs.lemmas.List.{get_or-append-add, get_or_append_left, get_or_past}
use Rattle.std.proofs.lemmas.List.Sums.{get_or-le-sum_by, sum-map}
use Rattle.std.proofs.lemmas.List.Elements.{Contains-get_or}
use Rattle.lf_ast.specs.Labels.{Bytes}
use Rattle.lf_ast.specs.Selectors.{metric}
use Rattle.lf_semantics.specs.Listing.{IsFirstFree, IsOtherName, Listing, label_of, named_at, place}
use Rattle.lf_semantics.proofs.FreeTexts.{one_free}
use Rattle.lf_semantics.proofs.Places.{at_place, place_at, place_le}
use Rattle.lf_classes.specs.Limits.{IsWithin}
use Rattle.lf_trials.specs.Candidates.{other_name}
use Rattle.lf_trials.proofs.FirstFree.{other_name_is}
use Rattle.lf_candidates.specs.views.ClassTexts.{name_at}

-- the first free text is one
module _ (letter : Bytes) (taken : List Bytes) where
  abbrev numbered : ℕ → Bytes
  numbered j = letter ++ decimal (j + 1)

  no_sooner : (a b : Bytes) (first : IsFirstFree letter taken a) (second : IsFirstFree letter taken b) → first.0 < second.0 → ⊥
  no_sooner a b first second less = first.2 (subst (Contains taken) (sym first.1) (second.3 first.0 less))

  pub one_first_free : (a b : Bytes) → IsFirstFree letter taken a → IsFirstFree letter taken b → a ≡ b
  one_first_free a b first second = elim (cases_lt first.0 second.0) [
    | inl less ↦ absurd (no_sooner a b first second less)
    | inr least ↦ elim (cases_lt second.0 first.0) [
      | inl less ↦ absurd (no_sooner b a second first less)
      | inr most ↦ let same : first.0 ≡ second.0 = omega (arith, least, most) in first.1 ∙ ap numbered same ∙ sym second.1
    ]
  ]

module _ (u : Listing) (within : IsWithin u) where
  pub few : length u.names < 2 ^ 63
  few = omega (arith, within.labels)

  pub is_other_name : (name : Bytes) → IsOtherName u name → name ≡ other_name u
  is_other_name name is = one_first_free (codes "x") u.names name (other_name u) is (other_name_is u few)

  other_is_last : label_of u (other_name u) ≡ length u.names
  other_is_last = elim (cases_lt (place u.names (other_name u)) (length u.names)) [
    | inl less ↦ absurd ((other_name_is u few).2 (subst (Contains u.names) (at_place u.names (other_name u) less) (Contains-get_or u.names (place u.names (other_name u)) [] less)))
    | inr least ↦ let most = place_le u.names (other_name u) in omega (arith, least, most)
  ]

  -- the name of a number has that number
  pub label_at : (label : ℕ) → label < length u.named → label_of u (name_at u label) ≡ label
  label_at label h = elim (cases_lt label (length u.names)) [
    | inl less ↦ ap (label_of u) (get_or_append_left u.names (other_name u ∷ []) [] label less) ∙ place_at u.names label less (λ k before. within.listing.distinct k label before less)
    | inr least ↦ let last : label ≡ length u.names + 0 = omega (arith, least, h, within.listing.count) in
        ap (λ k. label_of u (name_at u k)) last ∙ ap (label_of u) (get_or-append-add u.names (other_name u ∷ []) 0 []) ∙ other_is_last ∙ (let back : length u.names ≡ label = omega (arith, last) in back)
  ]

  -- the classes of a label are few
  pub few_named : (label : ℕ) → length (named_at u label) < 2 ^ 63
  few_named label = elim (cases_lt label (length u.named)) [
    | inl less ↦
        let most = get_or-le-sum_by (λ (named : List Bytes). length named + 2) u.named label [] less in
        let all = sum-map (λ (named : List Bytes). length named + 2) u.named in
        omega (arith, most, all, within.classes)
    | inr least ↦ let none : length (named_at u label) ≡ 0 = ap length (get_or_past u.named label [] least) in omega (arith, none)
  ]

-- the label of number 0 is `__name__`

pub metric_first : (u : Listing) → IsWithin u → name_at u 0 ≡ metric
metric_first u within = get_or_append_left u.names (other_name u ∷ []) [] 0 within.listing.some ∙ within.listing.first

pub some_label : (u : Listing) → IsWithin u → 0 < length u.named
some_label u within = omega (arith, within.listing.count)

pub metric_number : (u : Listing) → IsWithin u → label_of u metric ≡ 0
metric_number u within = ap (label_of u) (sym (metric_first u within)) ∙ label_at u within 0 (some_label u within)

-- of one more names `x1`, `x2`, .. than there are names, one is none of them
pub some_other_name : (u : Listing) → IsWithin u → ((j : ℕ) → j < length u.names + 1 → Contains u.names (codes "x" ++ decimal (j + 1))) → ⊥
some_other_name u within all = one_free 120 u.names (few u within) all
