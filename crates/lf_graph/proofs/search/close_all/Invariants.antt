use Rattle.std.proofs.Common.{take}
use Rattle.lf_graph.specs.views.Search.{IsClosing}
use Rattle.lf_graph.proofs.search.close_all.Given as goal

abbrev pub invariant-loop-member : goal.invariant-loop-member
invariant-loop-member l = IsClosing l.number (take l.member-index l.members) l.fn.nodes.items l.nodes.items
