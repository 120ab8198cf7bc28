use Rattle.std.proofs.Common.{◌≡◌, map, take}
use Rattle.lf_ast.specs.Tree.{tree}
use Rattle.lf_open.specs.Holding.{has_own_source}
use Rattle.lf_open.proofs.reading.loud_rules.Given as goal

abbrev pub invariant-loop-rule : goal.invariant-loop-rule
invariant-loop-rule l = l.passing.items ≡ map (λ r. has_own_source (tree r.expr)) (take l.rule-index l.rule-items)
