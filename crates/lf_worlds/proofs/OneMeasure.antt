-- Rules have one measure: each rule has a reach, and no two.
use Rattle.std.proofs.Common.{◌≡◌, ◌<◌, ◌*◌, ℕ, List, [], length, Option, sym, ap, ◌∙◌, subst, slice_get}
use Rattle.std.specs.List.{range_with_len}
use Rattle.std.specs.Option.{option_map_or}
use Rattle.lf_laws.proofs.Slices.{some_at}
use Rattle.lf_laws.proofs.Members.{same_sums}
use Rattle.lf_ast.specs.Rules.{RuleTree}
use Rattle.lf_semantics.specs.Listing.{Listing}
use Rattle.lf_deps.proofs.Ascending.{of_range}
use Rattle.lf_trials.specs.Candidates.{labels_in}
use Rattle.lf_trials.specs.Reached.{IsReach, with_reach}
use Rattle.lf_trials.proofs.OneVerdict.{one_reach}
use Rattle.lf_trials.proofs.Reachable.{is_reach_of, reach_of}
use Rattle.lf_worlds.specs.Measure.{AreReaches, IsLabelSelectors, selectors_at, selectors_tried}

-- each rule has a reach

abbrev pub reach_at : List RuleTree → ℕ → List ℕ
reach_at rules i = option_map_or (λ (r : RuleTree). reach_of rules r.expr) (slice_get rules i) []

pub are_reaches : (rules : List RuleTree) → AreReaches rules (reach_at rules)
are_reaches rules i r at = subst (IsReach rules r.expr) (sym (ap (λ (o : Option RuleTree). option_map_or (λ (q : RuleTree). reach_of rules q.expr) o []) at)) (is_reach_of rules r.expr)

-- and no two

pub same_tried : (rules : List RuleTree) (f g : ℕ → List ℕ) → AreReaches rules f → AreReaches rules g → selectors_tried rules f ≡ selectors_tried rules g
same_tried rules f g one other = same_sums _ _ (range_with_len 0 (length rules)) (λ i there. ap (λ (js : List ℕ). selectors_at rules (with_reach i js)) (same i (of_range (length rules) i there)))
  where
    same : (i : ℕ) → i < length rules → f i ≡ g i
    same i less = let r = some_at rules i less in one_reach rules r.0.expr (f i) (g i) (one i r.0 r.1) (other i r.0 r.1)

pub one_measure : (u : Listing) (rules : List RuleTree) (m n : ℕ) → IsLabelSelectors u rules m → IsLabelSelectors u rules n → m ≡ n
one_measure u rules m n a b = a.is_product ∙ ap (λ (k : ℕ). length (labels_in u) * k) (same_tried rules a.reach b.reach a.are_reaches b.are_reaches) ∙ sym b.is_product
