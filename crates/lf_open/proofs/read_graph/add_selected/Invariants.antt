use Rattle.std.proofs.Common.{take}
use Rattle.lf_deps.specs.views.Search.{Grows}
use Rattle.lf_open.specs.views.ReadNames.{said_names}
use Rattle.lf_open.proofs.read_graph.add_selected.Given as goal

abbrev pub invariant-loop-selector : goal.invariant-loop-selector
invariant-loop-selector l = Grows (said_names (take l.selector-index l.selected)) l.fn.names l.names
