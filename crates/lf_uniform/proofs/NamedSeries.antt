-- A series with a name has the labels of the texts, and the name.
use Rattle.std.proofs.Common.{◌≡◌, ◌<◌, ℕ, suc, Bool, false, cond, get_or, map, List, [], ◌∷◌, ◌++◌, length, Option, Some, None, refl, sym, ◌∙◌, ap, subst, arith}
use Rattle.std.specs.List.{Contains}
use Rattle.std.specs.Option.{option_map_or}
use Rattle.std.specs.Str.{bytes_eq}
use Rattle.std.proofs.lemmas.List.{get_or_default}
use Rattle.lf_laws.proofs.Members.{behind, here, other_false}
use Rattle.lf_ast.specs.Labels.{Bytes, Labels}
use Rattle.lf_ast.specs.Selectors.{metric}
use Rattle.lf_classes.specs.Limits.{IsWithin}
use Rattle.lf_semantics.specs.Grouped.{is_metric}
use Rattle.lf_semantics.specs.Listing.{Listing, label_of}
use Rattle.lf_candidates.specs.views.ClassTexts.{name_at}
use Rattle.lf_candidates.proofs.Labelled.{label_at, metric_first, some_label}
use Rattle.lf_candidates.proofs.Standing.{label_count}
use Rattle.lf_trials.specs.Candidates.{labels_in, other_name}
use Rattle.lf_trials.specs.Given.{Given, giving, label_set, losing, with_text}

module _ (name : Bytes) (D : Given) where
  abbrev with_name : Given
  with_name = giving metric name D

  abbrev without : Given
  without = losing is_metric D

  same_rest : (names : List Bytes) → ((n : Bytes) → Contains names n → bytes_eq n metric ≡ false) → label_set names with_name ≡ label_set names without
  same_rest [] none = refl
  same_rest (n ∷ names) none =
      let e : bytes_eq n metric ≡ false = none n (here n names) in
      ap (λ (o : Option Bytes). option_map_or (λ t. with_text n t (label_set names with_name)) o (label_set names with_name)) (ap (λ (b : Bool). cond b (Some name) (D n)) e ∙ sym (ap (λ (b : Bool). cond b None (D n)) e))
      ∙ ap (λ (s : Labels). option_map_or (λ t. with_text n t s) (without n) s) (same_rest names (λ m c. none m (behind n names m c)))

  of_list : (rest : List Bytes) → ((n : Bytes) → Contains rest n → bytes_eq n metric ≡ false) → label_set (metric ∷ rest) with_name ≡ with_text metric name (label_set (metric ∷ rest) without)
  of_list rest none = ap (with_text metric name) (same_rest rest none)

module _ (u : Listing) (within : IsWithin u) where
  split : (rest : List Bytes) × (labels_in u ≡ metric ∷ rest)
  split = by u.names within.listing.some within.listing.first
    where
      by : (names : List Bytes) → 0 < length names → get_or names 0 [] ≡ metric → (rest : List Bytes) × (names ++ other_name u ∷ [] ≡ metric ∷ rest)
      by [] some first = absurd (omega (arith, some))
      by (n ∷ names) some first = (names ++ other_name u ∷ [], ap (λ (z : Bytes). z ∷ (names ++ other_name u ∷ [])) first)

  -- no other label is the metric name
  none_other : (rest : List Bytes) → labels_in u ≡ metric ∷ rest → (n : Bytes) → Contains rest n → bytes_eq n metric ≡ false
  none_other rest are n c =
      let k : ℕ = c.0 in
      let size = label_count u within in
      let long = ap length are in
      let at : name_at u (suc k) ≡ n = ap (λ (xs : List Bytes). get_or xs (suc k) []) are ∙ get_or_default rest k [] n c.1 ∙ c.2 in
      let own = label_at u within (suc k) (omega (arith, c.1, size, long)) in
      let first = label_at u within 0 (some_label u within) in
      other_false n metric (λ e. let same : suc k ≡ 0 = sym own ∙ ap (label_of u) (at ∙ e ∙ sym (metric_first u within)) ∙ first in absurd (omega (arith, same)))

  pub named_set : (name : Bytes) (D : Given) → with_text metric name (label_set (labels_in u) (losing is_metric D)) ≡ label_set (labels_in u) (giving metric name D)
  named_set name D =
      subst (λ (xs : List Bytes). with_text metric name (label_set xs (losing is_metric D)) ≡ label_set xs (giving metric name D)) (sym split.1)
      (sym (of_list name D split.0 (none_other split.0 split.1)))

pub same_map : {X Y : Type 0} (f g : X → Y) (xs : List X) → ((x : X) → f x ≡ g x) → map f xs ≡ map g xs
same_map f g [] same = refl
same_map f g (x ∷ xs) same = ap (λ y. y ∷ map f xs) (same x) ∙ ap (λ ys. g x ∷ ys) (same_map f g xs same)
