use Rattle.lf_yaml.proofs.FlowOn.{turns-low}
use Rattle.lf_yaml.proofs.flow_entries.entry_turn.Goals as goal

pub returns-else-part-eq125-clause-turn : goal.returns-else-part-eq125-clause-turn
returns-else-part-eq125-clause-turn c = turns-low c.args.source.bytes.now c.in-Ok.part.at c.args.place.at c.in-Ok.ensures.further c.entry_on.result c.entry_on.ensures.turn
