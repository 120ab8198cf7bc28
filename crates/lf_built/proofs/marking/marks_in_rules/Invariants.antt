use Rattle.std.proofs.Common.{◌≡◌, map, take}
use Rattle.lf_ast.specs.Rules.{RuleTree, rule_trees}
use Rattle.lf_ast.specs.Tree.{nodes}
use Rattle.lf_built.specs.views.Marking.{marks_at}
use Rattle.lf_built.proofs.marking.marks_in_rules.Given as goal

abbrev pub invariant-loop-k : goal.invariant-loop-k
invariant-loop-k l = l.all.items ≡ map (λ (r : RuleTree). map (marks_at l.names) (nodes r.expr)) (rule_trees (take l.k l.rules))
