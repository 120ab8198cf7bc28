use Rattle.std.proofs.Common.{arith, ◌+◌, length, refl}
use Rattle.lf_scalar.specs.reading.Quoted.{broken}
use Rattle.lf_scalar.proofs.LinesBehind.{step-blank, step-full, step-bad, at-end, step-room, fewer, some-bytes, no-bytes}
use Rattle.lf_scalar.proofs.quoted_scalar.push_behind.Goals as goal
use Rattle.lf_scalar.proofs.quoted_scalar.push_behind.Goals.{then-blanks-line, else-blanks-line+in-Ok}

pub returns-in-Err : goal.returns-in-Err
returns-in-Err c =
    let pos = some-bytes c.is_empty.result (length c.loop-left.left.now) c.is_empty.ensures c.loop-left-test.true in
    step-bad c.args.kind _ c.args.builder.now c.loop-left.builder (broken c.loop-left.pending.at_break c.loop-left.pending.at) c.loop-left.pending.blank c.loop-left.place c.line_end-end.result.text c.line_end-end.result.feed c.blanks.result c.loop-left.left.now
    c.before-line.result.now _ c.loop-left.invariant.0 (c.line_end-end.ensures.first c.loop-left.place pos) c.before-line.ensures refl (c.blanks.ensures.blank c.loop-left.place) c.if-blanks-line.false c.in-Err.refusal (c.in-Err.ensures (c.loop-left.place + c.line_end-end.result.feed))

pub loop-left-preserved : goal.loop-left-preserved
loop-left-preserved c =
    let pos = some-bytes c.is_empty.result (length c.loop-left.left.now) c.is_empty.ensures c.loop-left-test.true in
    let first = c.line_end-end.ensures.first c.loop-left.place pos in
    let room = step-room c.loop-left.place c.line_end-end.result.feed (c.args.at + length c.args.rest.now) c.loop-left.left.now c.past-left.result.now pos c.line_end-end.ensures.within.1 c.past-left.ensures c.loop-left.invariant.1 in
    let less = fewer c.line_end-end.result.feed c.loop-left.left.now c.past-left.result.now pos c.past-left.ensures in
    let count = c.loop-left.invariant.2 in
    elim c.if-blanks-line.branch [
      | then-blanks-line w ↦
          rw (w.builder-is, w.pending-is) (
            step-blank c.args.kind _ c.args.builder.now c.loop-left.builder (broken c.loop-left.pending.at_break c.loop-left.pending.at) c.loop-left.pending.blank c.loop-left.place c.line_end-end.result.text c.line_end-end.result.feed c.blanks.result c.loop-left.left.now
                c.before-line.result.now c.past-left.result.now c.loop-left.invariant.0 first c.before-line.ensures c.past-left.ensures (c.blanks.ensures.blank c.loop-left.place) w.if-blanks-line.true,
            room,
            omega (arith, less, count),
          )
      | else-blanks-line+in-Ok w ↦
          rw (w.builder-is, w.pending-is) (
            step-full c.args.kind _ c.args.builder.now c.loop-left.builder (broken c.loop-left.pending.at_break c.loop-left.pending.at) c.loop-left.pending.blank c.loop-left.place c.line_end-end.result.text c.line_end-end.result.feed c.blanks.result c.loop-left.left.now
                c.before-line.result.now c.past-left.result.now c.loop-left.invariant.0 first c.before-line.ensures c.past-left.ensures (c.blanks.ensures.blank c.loop-left.place) w.if-blanks-line.false w.push_next.new.builder w.in-Ok.at_break
                (w.in-Ok.ensures (c.loop-left.place + c.line_end-end.result.feed)),
            room,
            omega (arith, less, count),
          )
    ]

pub returns : goal.returns
returns c =
    at-end {X = Unit {0}} tt c.args.kind _ c.args.builder.now c.loop-left.builder (broken c.loop-left.pending.at_break c.loop-left.pending.at) c.loop-left.pending.blank c.loop-left.place c.loop-left.left.now c.loop-left.invariant.0
    (no-bytes c.is_empty.result (length c.loop-left.left.now) c.is_empty.ensures c.loop-left-test.false)
