use Rattle.std.proofs.Common.{◌≡◌, map, take}
use Rattle.lf_worlds.specs.views.RuleGraph.{nodes_selected}
use Rattle.lf_worlds.proofs.rule_graph.edges_of_rules.Given as goal

abbrev pub invariant-loop-rule : goal.invariant-loop-rule
invariant-loop-rule l = l.edges ≡ map (nodes_selected l.rules l.sources.names) (take l.rule l.sources.selected)
