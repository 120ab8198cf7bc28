-- Counts over lists of lists, list by list.
use Rattle.std.proofs.Common.{◌≡◌, ℕ, ◌+◌, ◌<◌, Bool, cond, List, [], ◌∷◌, ◌++◌, take, length, get_or, refl, ap, sym, ◌∙◌, arith, append-nil}
use Rattle.std.specs.List.{count_by, flat_map, fold}
use Rattle.std.proofs.lemmas.List.{take_more}
use Rattle.std.proofs.lemmas.List.Concat.{flat_map-append}
use Rattle.lf_report.specs.Counts.{empty_count, is_empty, is_guaranteed, is_impossible, is_note, is_possible, is_problem, is_unresolved}
use Rattle.lf_report.specs.Numbers.{labels_of}
use Rattle.lf_report.specs.declared.counting.Totals.{Totals}
use Rattle.lf_report.specs.declared.report.RuleReport.{RuleReport}
use Rattle.lf_report.specs.views.Totals.{AreTotals, IsWith}

module _ {A B : Type 0} (f : A → List B) where
  -- the lists of one element more
  pub flat_more : (xs : List A) (k : ℕ) (x : A) → k < length xs → x ≡ get_or xs k x → flat_map f (take (k + 1) xs) ≡ flat_map f (take k xs) ++ f x
  flat_more xs k x h is =
      ap (flat_map f) (take_more xs k x h) ∙ flat_map-append f (take k xs) (get_or xs k x ∷ [])
      ∙ ap (λ y. flat_map f (take k xs) ++ flat_map f (y ∷ [])) (sym is) ∙ ap (λ l. flat_map f (take k xs) ++ l) (append-nil (f x))

module _ {B : Type 0} (p : B → Bool) where
  abbrev step : ℕ → B → ℕ
  step n x = n + cond (p x) 1 0

  count_from : (n : ℕ) (xs : List B) → fold step n xs ≡ n + count_by p xs
  count_from n [] = omega arith
  count_from n (x ∷ xs) = omega (arith, count_from (step n x) xs, count_from (step 0 x) xs)

  fold_append : (n : ℕ) (xs ys : List B) → fold step n (xs ++ ys) ≡ fold step (fold step n xs) ys
  fold_append n [] ys = refl
  fold_append n (x ∷ xs) ys = fold_append (step n x) xs ys

  pub count_append : (xs ys : List B) → count_by p (xs ++ ys) ≡ count_by p xs + count_by p ys
  count_append xs ys = fold_append 0 xs ys ∙ count_from (count_by p xs) ys

  -- one element more
  pub count_more : (xs : List B) (k : ℕ) (x : B) → k < length xs → x ≡ get_or xs k x → count_by p (take (k + 1) xs) ≡ count_by p (take k xs) + cond (p x) 1 0
  count_more xs k x h is =
      let e : count_by p (take (k + 1) xs) ≡ count_by p (take k xs) + count_by p (x ∷ []) =
      ap (count_by p) (take_more xs k x h) ∙ count_append (take k xs) (get_or xs k x ∷ []) ∙ ap (λ y. count_by p (take k xs) + count_by p (y ∷ [])) (sym is) in
      omega (arith, e)

module _ {A B : Type 0} (f : A → List B) (p : B → Bool) where
  pub count_flat_more : (xs : List A) (k : ℕ) (x : A) → k < length xs → x ≡ get_or xs k x
      → count_by p (flat_map f (take (k + 1) xs)) ≡ count_by p (flat_map f (take k xs)) + count_by p (f x)
  count_flat_more xs k x h is = ap (count_by p) (flat_more f xs k x h is) ∙ count_append p (flat_map f (take k xs)) (f x)

abbrev empty_in : RuleReport → ℕ
empty_in rule = cond (is_empty rule.verdicts) 1 0

empty_more : (rules : List RuleReport) (k : ℕ) (rule : RuleReport) → k < length rules → rule ≡ get_or rules k rule
    → empty_count (take (k + 1) rules) ≡ empty_count (take k rules) + empty_in rule
empty_more rules k rule h is =
    let p : RuleReport → Bool = λ r. is_empty r.verdicts in
    omega (arith, count_more p rules k rule h is)

pub totals_more : (rules : List RuleReport) (k : ℕ) (rule : RuleReport) (before after : Totals) → k < length rules → rule ≡ get_or rules k rule → AreTotals (take k rules) before → IsWith before rule after
    → AreTotals (take (k + 1) rules) after
totals_more rules k rule before after h is are with = record {
  problems_are = omega (arith, with.problems_are, are.problems_are, count_flat_more (λ (r : RuleReport). r.findings) is_problem rules k rule h is);
  notes_are = omega (arith, with.notes_are, are.notes_are, count_flat_more (λ (r : RuleReport). r.findings) is_note rules k rule h is);
  guaranteed_are = omega (arith, with.guaranteed_are, are.guaranteed_are, count_flat_more (λ (r : RuleReport). labels_of r.verdicts) is_guaranteed rules k rule h is);
  impossible_are = omega (arith, with.impossible_are, are.impossible_are, count_flat_more (λ (r : RuleReport). labels_of r.verdicts) is_impossible rules k rule h is);
  possible_are = omega (arith, with.possible_are, are.possible_are, count_flat_more (λ (r : RuleReport). labels_of r.verdicts) is_possible rules k rule h is);
  unresolved_are = omega (arith, with.unresolved_are, are.unresolved_are, count_flat_more (λ (r : RuleReport). labels_of r.verdicts) is_unresolved rules k rule h is);
  empty_are = omega (arith, with.empty_are, are.empty_are, empty_more rules k rule h is);
}
