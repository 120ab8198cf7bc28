use Rattle.std.proofs.Common.{◌≡◌, map, take}
use Rattle.lf_ast.specs.Rules.{RuleTree, rule_trees}
use Rattle.lf_forks.specs.Selectors.{selector_total}
use Rattle.lf_worlds.proofs.measure.selector_counts.Given as goal

abbrev pub invariant-loop-k : goal.invariant-loop-k
invariant-loop-k l = l.counts.items ≡ map (λ (r : RuleTree). selector_total r.expr) (rule_trees (take l.k l.rules))
