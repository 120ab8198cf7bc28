use Rattle.lf_yaml.proofs.block_turns.next_entry.Goals as goal

pub returns-in-Some-entry_on-clause-entry : goal.returns-in-Some-entry_on-clause-entry
returns-in-Some-entry_on-clause-entry c = c.in-Some-entry_on.ensures.entry c.args.source.bytes.now c.in-Some.ensures.row c.in-Some.ensures.start
