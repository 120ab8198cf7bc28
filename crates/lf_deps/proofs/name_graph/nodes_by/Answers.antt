use Rattle.std.proofs.Common.{get_or}
use Rattle.std.proofs.lemmas.List.Elements.{Contains-get_or}
use Rattle.lf_deps.proofs.name_graph.nodes_by.Goals as goal

pub selected_by-requires : goal.selected_by-requires
selected_by-requires c = c.requires (get_or c.args.makers.now c.loop-maker.maker-index 0) (Contains-get_or c.args.makers.now c.loop-maker.maker-index 0 c.loop-maker-test.true)
