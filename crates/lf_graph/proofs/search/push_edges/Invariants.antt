use Rattle.std.proofs.Common.{◌≡◌, ◌++◌, take}
use Rattle.lf_graph.specs.views.Search.{edges_from}
use Rattle.lf_graph.proofs.search.push_edges.Given as goal

abbrev pub invariant-loop-node : goal.invariant-loop-node
invariant-loop-node l = l.due.items ≡ l.fn.due.items ++ edges_from l.from (take l.node-index l.nodes)
