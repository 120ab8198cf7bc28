use Rattle.std.proofs.Common.{◌+◌, ◌∙◌}
use Rattle.lf_scalar.proofs.PlainCode.{commented-first, bare-first, wrong-first}
use Rattle.lf_scalar.proofs.plain.push_plain.Goals as goal

pub returns-in-Ok-true : goal.returns-in-Ok-true
returns-in-Ok-true c =
    let b = c.args.at + c.line_end-end.result.feed in
    let t = c.in-Ok-true.ensures.text b in (
      t.0,
      commented-first c.args.above c.args.at c.args.rest.now c.before-2.result.now c.line_end-end.result.text c.line_end-end.result.feed c.before-2.ensures (c.line_end-end.ensures.first c.args.at c.requires.some) t.0 t.1
          (c.in-Ok-true.ensures.comment b ∙ c.in-Ok-true.field-0-test),
      t.2,
    )

pub returns-in-Ok-false : goal.returns-in-Ok-false
returns-in-Ok-false c =
    let b = c.args.at + c.line_end-end.result.feed in
    let t = c.in-Ok-false.ensures.text b in
    bare-first c.args.above c.args.at c.args.rest.now c.before-2.result.now c.line_end-end.result.text c.line_end-end.result.feed c.before-2.ensures (c.line_end-end.ensures.first c.args.at c.requires.some)
    c.push_behind.result c.args.builder.now c.push_plain_line.new.builder c.push_behind.new.builder t.0 c.past.result.now t.1 t.2 (c.in-Ok-false.ensures.comment b ∙ c.in-Ok-false.field-0-test) c.past.ensures c.push_behind.ensures

pub returns-in-Err : goal.returns-in-Err
returns-in-Err c =
    wrong-first c.args.above c.args.at c.args.rest.now c.before-2.result.now c.line_end-end.result.text c.line_end-end.result.feed c.before-2.ensures (c.line_end-end.ensures.first c.args.at c.requires.some)
    c.in-Err.refusal (c.in-Err.ensures.text (c.args.at + c.line_end-end.result.feed))
