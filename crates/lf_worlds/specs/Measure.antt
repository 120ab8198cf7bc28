-- How much there is to try: the labels of the universe, times the selectors that stand in each rule and in what it reads.
use Rattle.std.specs.Prelude.{◌≡◌, ◌<◌, ◌≤◌, ℕ, ◌*◌, ◌-◌, ◌^◌, List, length, min, Option, Some, None, slice_get}
use Rattle.std.specs.List.{range_with_len, sum_by}
use Rattle.lf_ast.specs.Rules.{RuleTree}
use Rattle.lf_semantics.specs.Listing.{Listing}
use Rattle.lf_trials.specs.Candidates.{labels_in}
use Rattle.lf_witness.specs.StrictRuns.{rules_at}
use Rattle.lf_trials.specs.Reached.{IsReach, with_reach}
use Rattle.lf_forks.specs.Selectors.{selector_total}

-- the reach of each rule, by its number
abbrev pub AreReaches : List RuleTree → (ℕ → List ℕ) → Type 0
AreReaches rules reach = (i : ℕ) (r : RuleTree) → slice_get rules i ≡ Some r → IsReach rules r.expr (reach i)

-- the selectors that stand in the rules of some numbers, those within scalars too
abbrev pub selectors_at : List RuleTree → List ℕ → ℕ
selectors_at rules numbers = sum_by (λ (r : RuleTree). selector_total r.expr) (rules_at rules numbers)

-- for each rule those in it and in its reach, all together; a rule in its own reach counts once
abbrev pub selectors_tried : List RuleTree → (ℕ → List ℕ) → ℕ
selectors_tried rules reach = sum_by (λ i. selectors_at rules (with_reach i (reach i))) (range_with_len 0 (length rules))

-- the labels, `*` among them, times these selectors
pub record IsLabelSelectors (u : Listing) (rules : List RuleTree) (n : ℕ) : Type 0 where
  pub reach : ℕ → List ℕ
  pub are_reaches : AreReaches rules reach
  pub is_product : n ≡ length (labels_in u) * selectors_tried rules reach

-- how much there is to try, or 2^64 - 1 where that is less, if it is more than a number, and else nothing
abbrev pub IsCountOver : Listing → List RuleTree → ℕ → Option ℕ → Type 0
IsCountOver u rules most (Some found) = (n : ℕ) × IsLabelSelectors u rules n × (found ≡ min n (2 ^ 64 - 1)) × (most < found)
IsCountOver u rules most None = (n : ℕ) × IsLabelSelectors u rules n × (min n (2 ^ 64 - 1) ≤ most)
