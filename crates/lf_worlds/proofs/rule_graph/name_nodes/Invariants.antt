use Rattle.std.proofs.Common.{◌≡◌}
use Rattle.lf_worlds.specs.views.RuleGraph.{name_nodes}
use Rattle.lf_worlds.proofs.rule_graph.name_nodes.Given as goal

abbrev pub invariant-loop-place : goal.invariant-loop-place
invariant-loop-place l = l.nodes ≡ name_nodes l.first l.place
