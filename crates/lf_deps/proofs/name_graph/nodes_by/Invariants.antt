use Rattle.std.proofs.Common.{◌≡◌, take}
use Rattle.std.specs.List.{flat_map}
use Rattle.lf_deps.specs.views.Names.{nodes_of}
use Rattle.lf_deps.proofs.name_graph.nodes_by.Given as goal

abbrev pub invariant-loop-maker : goal.invariant-loop-maker
invariant-loop-maker l = l.nodes ≡ flat_map (nodes_of l.names l.sources) (take l.maker-index l.makers)
