use Rattle.std.proofs.Common.{[], take}
use Rattle.lf_graph.specs.views.Listing.{Adds}
use Rattle.lf_deps.proofs.numbers.set_of.Given as goal

abbrev pub invariant-loop-number : goal.invariant-loop-number
invariant-loop-number l = Adds (take l.number-index l.numbers) [] l.set.keys
