use Rattle.std.proofs.Common.{◌≡◌, take}
use Rattle.std.specs.List.{flat_map}
use Rattle.lf_ast.specs.Rules.{rule_trees}
use Rattle.lf_forks.specs.views.Uses.{fork_nodes}
use Rattle.lf_forks.proofs.name_marks.NameMarks.nodes_of_rules.Given as goal

abbrev pub invariant-loop-k : goal.invariant-loop-k
invariant-loop-k l = l.nodes ≡ flat_map (fork_nodes l.self) (take l.k (rule_trees l.rules))
