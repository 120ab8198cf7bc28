use Rattle.std.proofs.Common.{◌≡◌, take}
use Rattle.std.specs.List.{flat_map}
use Rattle.lf_worlds.specs.views.RuleGraph.{node_of}
use Rattle.lf_worlds.proofs.rule_graph.nodes_selected.Given as goal

abbrev pub invariant-loop-selector : goal.invariant-loop-selector
invariant-loop-selector l = l.nodes ≡ flat_map (node_of l.first l.names) (take l.selector-index l.selected)
