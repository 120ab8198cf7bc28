use Rattle.std.proofs.Common.{◌≡◌, map, take}
use Rattle.lf_graph.specs.views.Search.{number_in}
use Rattle.lf_graph.proofs.numbering.numbers_in.Given as goal

abbrev pub invariant-loop-node : goal.invariant-loop-node
invariant-loop-node l = l.numbers.items ≡ map number_in (take l.node-index l.nodes)
