use Rattle.lf_yaml.proofs.FlowOn.{turns-low}
use Rattle.lf_yaml.proofs.flow_items.item_turn.Goals as goal

pub returns-else-part-eq93-clause-turn : goal.returns-else-part-eq93-clause-turn
returns-else-part-eq93-clause-turn c = turns-low c.args.source.bytes.now c.in-Ok.part.at c.args.place.at c.in-Ok.ensures.further c.item_on.result c.item_on.ensures.turn
