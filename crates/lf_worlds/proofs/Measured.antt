-- Counts of selectors, summed, and their products up to a greatest number.
use Rattle.std.proofs.Common.{◌≡◌, ◌<◌, ◌≤◌, ◌⊎◌, inl, inr, ℕ, zero, suc, ◌+◌, ◌*◌, min, List, [], ◌∷◌, length, map, get_or, refl, sym, ap, ◌∙◌, arith, slice_get, option_to_list}
use Rattle.std.specs.List.{sum_by}
use Rattle.std.proofs.lemmas.Bool.{cases_lt}
use Rattle.std.proofs.lemmas.List.{length-map}
use Rattle.std.proofs.lemmas.List.Sums.{sum_by-append, sum_by-cons}
use Rattle.lf_ast.specs.Rules.{RuleTree}
use Rattle.lf_deps.specs.views.Sources.{IsSourcesOf, Sources}
use Rattle.lf_deps.proofs.LookedUp.{selected_count}
use Rattle.lf_forks.specs.Selectors.{selector_total}
use Rattle.lf_witness.specs.StrictRuns.{rules_at}

-- the rules of numbers, counted one by one
module _ (total : RuleTree → ℕ) where
  count_at : (rules : List RuleTree) (k : ℕ) → sum_by total (option_to_list (slice_get rules k)) ≡ get_or (map total rules) k 0
  count_at [] k = refl
  count_at (r ∷ rules) zero = omega arith
  count_at (r ∷ rules) (suc k) = count_at rules k

  pub counts_at : (rules : List RuleTree) (numbers : List ℕ) → sum_by total (rules_at rules numbers) ≡ sum_by (λ k. get_or (map total rules) k 0) numbers
  counts_at rules [] = refl
  counts_at rules (k ∷ numbers) =
      let first = sum_by-append total (option_to_list (slice_get rules k)) (rules_at rules numbers) in
      let one = count_at rules k in
      let rest = counts_at rules numbers in
      let all = sum_by-cons (λ (j : ℕ). get_or (map total rules) j 0) k numbers in
      omega (arith, first, one, rest, all)

-- the selectors that stand in each rule are as many counts as an index of the rules has lists
pub counts_long : (rules : List RuleTree) (s : Sources) → IsSourcesOf rules s → {counts : List ℕ} → counts ≡ map (λ (r : RuleTree). selector_total r.expr) rules → length counts ≡ length s.selected
counts_long rules s is e = ap length e ∙ length-map rules (λ (r : RuleTree). selector_total r.expr) ∙ sym (selected_count rules s is)

-- products up to a greatest number

pub product_up_to : (n a most : ℕ) → min (n * min a most) most ≡ min (n * a) most
product_up_to n a most = by n (cases_lt most a)
  where
    least : (x : ℕ) → most ≤ x → min x most ≡ most
    least x h = grind arith

    whole : (x : ℕ) → x ≤ most → min x most ≡ x
    whole x h = grind arith

    at_least : (m x : ℕ) → most ≤ x → most ≤ suc m * x
    at_least m x h = let more : suc m * x ≡ x + m * x = omega arith in omega (arith, more, h)

    by : (n : ℕ) → (most < a) ⊎ (a ≤ most) → min (n * min a most) most ≡ min (n * a) most
    by zero _ = let e : 0 * min a most ≡ 0 * a = omega arith in ap (λ (x : ℕ). min x most) e
    by (suc m) (inl more) =
        let h : most ≤ a = omega (arith, more) in
        least (suc m * min a most) (at_least m (min a most) (omega (arith, least a h))) ∙ sym (least (suc m * a) (at_least m a h))
    by (suc m) (inr most_of_it) = ap (λ (x : ℕ). min (suc m * x) most) (whole a most_of_it)
