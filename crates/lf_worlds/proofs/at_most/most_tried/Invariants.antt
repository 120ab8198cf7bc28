use Rattle.std.proofs.Common.{◌≡◌, ◌≤◌, ◌-◌, ◌^◌, ℕ, List, length, map, min}
use Rattle.std.specs.List.{range_with_len, sum_by}
use Rattle.lf_ast.specs.Rules.{RuleTree}
use Rattle.lf_deps.specs.views.Sources.{IsSourcesOf}
use Rattle.lf_forks.specs.Selectors.{selector_total}
use Rattle.lf_worlds.specs.Measure.{AreReaches}
use Rattle.lf_worlds.proofs.AtMost.{AreTold, tried_by}
use Rattle.lf_worlds.proofs.at_most.most_tried.Given as goal

abbrev pub invariant-loop-rule : goal.invariant-loop-rule
invariant-loop-rule l = (length l.each.items ≡ l.rule) × ((rules : List RuleTree) → IsSourcesOf rules l.sources → l.counts ≡ map (λ (r : RuleTree). selector_total r.expr) rules → (reach : ℕ → List ℕ) → AreReaches rules reach →
    AreTold rules reach l.each.items × (min (sum_by (tried_by rules reach) (range_with_len 0 l.rule)) (2 ^ 64 - 1) ≤ l.all))
