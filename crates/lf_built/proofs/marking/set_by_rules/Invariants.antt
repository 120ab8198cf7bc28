use Rattle.std.proofs.Common.{◌≡◌, map, take}
use Rattle.lf_ast.specs.Rules.{rule_trees}
use Rattle.lf_built.specs.views.Marking.{set_by}
use Rattle.lf_built.proofs.marking.set_by_rules.Given as goal

abbrev pub invariant-loop-k : goal.invariant-loop-k
invariant-loop-k l = l.set.items ≡ map (set_by l.names) (rule_trees (take l.k l.rules))
