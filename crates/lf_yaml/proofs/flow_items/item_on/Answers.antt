use Rattle.lf_yaml.proofs.FlowOn.{turns-low}
use Rattle.lf_yaml.proofs.flow_items.item_on.Goals as goal

pub returns-in-Ok-clause-turn : goal.returns-in-Ok-clause-turn
returns-in-Ok-clause-turn c = turns-low c.args.source.bytes.now c.in-Ok.place.at c.args.part.at c.in-Ok.ensures.further c.item_sign.result c.item_sign.ensures.turn
