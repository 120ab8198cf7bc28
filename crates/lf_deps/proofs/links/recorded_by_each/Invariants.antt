use Rattle.std.proofs.Common.{◌≡◌, map, take}
use Rattle.lf_ast.specs.Rules.{rule_tree}
use Rattle.lf_deps.specs.views.Links.{recorded_at}
use Rattle.lf_deps.proofs.links.recorded_by_each.Given as goal

abbrev pub invariant-loop-k : goal.invariant-loop-k
invariant-loop-k l = l.all ≡ map (λ r. recorded_at l.names (rule_tree r)) (take l.k l.rules)
