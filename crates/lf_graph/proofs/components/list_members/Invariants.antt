use Rattle.lf_graph.specs.views.Listing.{AreMembers}
use Rattle.lf_graph.proofs.components.list_members.Given as goal

abbrev pub invariant-loop-node : goal.invariant-loop-node
invariant-loop-node l = AreMembers l.numbers l.node l.count l.members
