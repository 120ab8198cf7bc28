use Rattle.lf_scalar.specs.views.Built.{built}
use Rattle.lf_scalar.proofs.PlainRead.{some-bytes, fault-read, builder-within, builder-read}
use Rattle.lf_scalar.proofs.plain.read_plain.Goals as goal

pub push_plain-requires-clause-some : goal.push_plain-requires-clause-some
push_plain-requires-clause-some c = some-bytes c.args.at c.args.rest.now c.requires.begins

pub with_text-requires : goal.with_text-requires
with_text-requires c = let h = c.in-Ok.ensures in builder-within c.args.above c.args.at c.args.rest.now c.new-builder.result c.push_plain.new.builder h.0 c.new-builder.ensures h.1 h.2

pub returns-in-Ok : goal.returns-in-Ok
returns-in-Ok c =
    let h = c.in-Ok.ensures in
    record { gives = builder-read c.args.above c.args.at c.args.rest.now c.new-builder.result c.push_plain.new.builder h.0 c.new-builder.ensures h.1 h.2 c.requires.begins (built c.with_text.result) c.with_text.ensures }

pub returns-in-Err : goal.returns-in-Err
returns-in-Err c = record { gives = fault-read c.args.above c.args.at c.args.rest.now c.requires.begins c.in-Err.refusal c.in-Err.ensures }
