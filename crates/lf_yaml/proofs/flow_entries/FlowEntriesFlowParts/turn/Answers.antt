use Rattle.std.proofs.Common.{length, map, suc}
use Rattle.lf_yaml.specs.Tree.{pair}
use Rattle.lf_yaml.specs.reading.FlowTurns.{texts_of}
use Rattle.lf_yaml.proofs.EntryTurns.{entries-turned}
use Rattle.lf_yaml.proofs.flow_entries.FlowEntriesFlowParts.turn.Goals as goal

pub returns-clause-gives : goal.returns-clause-gives
returns-clause-gives c = λ found read so_far.
    let keys = texts_of (map pair found) in
    entries-turned c.args.source.bytes.now found c.entry_turn.new.keys c.args.place.at read so_far.1 c.entry_turn.result (c.entry_turn.ensures.gives (suc (length c.args.source.bytes.now)) keys so_far.0) (c.entry_turn.ensures.keys keys so_far.0)
