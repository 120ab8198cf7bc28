use Rattle.std.proofs.Common.{map}
use Rattle.lf_graph.specs.views.Listing.{AreNexts}
use Rattle.lf_graph.proofs.components.list_nexts.Given as goal

abbrev pub invariant-loop-node : goal.invariant-loop-node
invariant-loop-node l = AreNexts l.edges l.numbers l.node l.count (map (λ t. t.keys) l.nexts.items)
