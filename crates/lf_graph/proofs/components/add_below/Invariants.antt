use Rattle.std.proofs.Common.{map}
use Rattle.std.specs.Map.Iter.{deref}
use Rattle.lf_graph.specs.views.Listing.{AddsBelow}
use Rattle.lf_graph.proofs.components.add_below.Given as goal

abbrev pub invariant-loop-next : goal.invariant-loop-next
invariant-loop-next l = AddsBelow (map deref l.yielded) l.number l.fn.due.keys l.due.keys
