use Rattle.std.proofs.Common.{length, suc}
use Rattle.lf_yaml.proofs.ItemCode.{items-turned}
use Rattle.lf_yaml.proofs.flow_items.FlowItemsFlowParts.turn.Goals as goal

pub returns-clause-gives : goal.returns-clause-gives
returns-clause-gives c = λ found read so_far. items-turned c.args.source.bytes.now found c.args.place.at read so_far c.item_turn.result (c.item_turn.ensures.gives (suc (length c.args.source.bytes.now)))
