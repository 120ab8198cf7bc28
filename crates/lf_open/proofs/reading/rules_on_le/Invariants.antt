use Rattle.std.proofs.Common.{◌≡◌, map, take}
use Rattle.lf_ast.specs.Rules.{rule_tree}
use Rattle.lf_open.specs.Holding.{names_le}
use Rattle.lf_open.proofs.reading.rules_on_le.Given as goal

abbrev pub invariant-loop-rule : goal.invariant-loop-rule
invariant-loop-rule l = l.passing.items ≡ map (λ r. names_le (rule_tree r)) (take l.rule-index l.rule-items)
