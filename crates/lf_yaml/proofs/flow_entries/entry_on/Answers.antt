use Rattle.std.proofs.Common.{sym, subst}
use Rattle.lf_yaml.specs.views.Shown.{shown}
use Rattle.lf_yaml.specs.reading.FlowTurns.{TurnsEntries, left_behind}
use Rattle.lf_yaml.proofs.EntryTurns.{entry-goes, entry-fails}
use Rattle.lf_yaml.proofs.FlowOn.{turns-low}
use Rattle.lf_yaml.proofs.flow_entries.entry_on.Goals as goal

pub returns-in-Ok-clause-gives : goal.returns-in-Ok-clause-gives
returns-in-Ok-clause-gives c = λ later before h.
    subst (TurnsEntries later before c.entry_sign.result)
    (sym (entry-goes c.args.source.bytes.now later before (shown c.args.part).first (shown c.args.part).rest (left_behind (c.in-Ok.found, c.in-Ok.place)) (c.in-Ok.ensures.gives before h)))
    (c.entry_sign.ensures.gives later before)

pub returns-in-Ok-clause-turn : goal.returns-in-Ok-clause-turn
returns-in-Ok-clause-turn c = turns-low c.args.source.bytes.now c.in-Ok.place.at c.args.part.at c.in-Ok.ensures.further c.entry_sign.result c.entry_sign.ensures.turn

pub returns-in-Ok-clause-keys : goal.returns-in-Ok-clause-keys
returns-in-Ok-clause-keys c = λ before h. c.entry_sign.ensures.found c.entry_from.new.keys before (c.in-Ok.ensures.keys before h)

pub returns-in-Err-clause-gives : goal.returns-in-Err-clause-gives
returns-in-Err-clause-gives c = λ later before h. entry-fails c.args.source.bytes.now later before c.in-Err.refusal (shown c.args.part).first (shown c.args.part).rest (c.in-Err.ensures.gives before h)
