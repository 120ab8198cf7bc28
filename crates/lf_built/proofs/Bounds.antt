-- How many selectors stand in a rule and its reach.
use Rattle.std.proofs.Common.{◌≡◌, ◌+◌, ℕ, Bool, true, false, cond, eqb, nat_lt, List, [], ◌∷◌, ◌++◌, map, length, refl, ◌∙◌, ap, arith, option_to_list}
use Rattle.std.specs.Prelude.{slice_get, sum}
use Rattle.std.specs.List.{filter}
use Rattle.std.proofs.lemmas.Bool.Decides.{nat_tests}
use Rattle.std.proofs.lemmas.List.{map-append}
use Rattle.std.proofs.lemmas.List.Sums.{sum_by-append}
use Rattle.lf_ast.specs.Rules.{RuleTree}
use Rattle.lf_deps.specs.Reading.{selectors}
use Rattle.lf_trials.specs.Built.{selector_count}
use Rattle.lf_witness.specs.StrictRuns.{rules_at}
use Rattle.lf_trials.specs.Reached.{with_reach}
use Rattle.lf_built.specs.views.Counts.{others, selected}

module _ (rules : List RuleTree) where
  abbrev counted : RuleTree → ℕ
  counted r = length (selectors r.expr)

  sum_both : (xs ys : List RuleTree) → sum (map counted (xs ++ ys)) ≡ sum (map counted xs) + sum (map counted ys)
  sum_both xs ys = ap sum (map-append counted xs ys) ∙ sum_by-append (λ (n : ℕ). n) (map counted xs) (map counted ys)

  count_first : (k : ℕ) (ks : List ℕ) → selector_count rules (k ∷ ks) ≡ selected rules k + selector_count rules ks
  count_first k ks = sum_both (option_to_list (slice_get rules k)) (rules_at rules ks)

  count_both : (js ks : List ℕ) → selector_count rules (js ++ ks) ≡ selector_count rules js + selector_count rules ks
  count_both [] ks = omega arith
  count_both (j ∷ js) ks = omega (arith, count_first j (js ++ ks), count_first j js, count_both js ks)

  -- the numbers below i and those above it
  abbrev below : ℕ → List ℕ → List ℕ
  below i reach = filter (λ k. nat_lt k i) reach

  abbrev above : ℕ → List ℕ → List ℕ
  above i reach = filter (λ k. nat_lt i k) reach

  one_side : (b : Bool) (k : ℕ) (ks : List ℕ) → selector_count rules (cond b (k ∷ ks) ks) ≡ cond b (selected rules k) 0 + selector_count rules ks
  one_side true k ks = count_first k ks
  one_side false k ks = omega arith

  each_side : (i k n : ℕ) → cond (nat_lt k i) n 0 + cond (nat_lt i k) n 0 ≡ cond (eqb i k) 0 n
  each_side i k n = grind (arith, nat_tests)

  both_sides : (i : ℕ) (reach : List ℕ) → selector_count rules (below i reach) + selector_count rules (above i reach) ≡ others rules i reach
  both_sides i [] = refl
  both_sides i (k ∷ reach) =
      let a = one_side (nat_lt k i) k (below i reach) in
      let b = one_side (nat_lt i k) k (above i reach) in
      omega (arith, a, b, both_sides i reach, each_side i k (selected rules k))

  pub count_is : (i : ℕ) (reach : List ℕ) → selector_count rules (with_reach i reach) ≡ selected rules i + others rules i reach
  count_is i reach = omega (arith, count_both (below i reach) (i ∷ above i reach), count_first i (above i reach), both_sides i reach)

  pub others_more : (i : ℕ) (reach : List ℕ) (k : ℕ) → others rules i (reach ++ k ∷ []) ≡ others rules i reach + cond (eqb i k) 0 (selected rules k)
  others_more i [] k = omega arith
  others_more i (j ∷ reach) k = omega (arith, others_more i reach k)
