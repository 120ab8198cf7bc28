use Rattle.std.proofs.Common.{arith, ap, ◌≡◌, ◌∙◌, ◌+◌, drop}
use Rattle.lf_scalar.specs.Lines.{lines_at}
use Rattle.lf_scalar.specs.Block.{body_fault}
use Rattle.lf_scalar.proofs.BodyRun.{seen-none, seen-line, found, ends-past, ends-there, none-past, broken-there}
use Rattle.lf_scalar.proofs.body.find_body.Goals as goal
use Rattle.lf_scalar.proofs.body.find_body.Goals.{in-Spaces, in-Text}

pub loop-place-init : goal.loop-place-init
loop-place-init c =
    let z : c.args.at ≡ c.args.at + 0 = omega arith in
    (seen-none c.args.indent c.args.at c.args.bytes.now, ap (λ n. body_fault c.args.leads c.args.above c.args.indent (lines_at n c.args.bytes.now)) z)

pub loop-place-preserved : goal.loop-place-preserved
loop-place-preserved c =
    let told = rw (c.before-line.ensures, c.past.ensures) at (c.in-Ok.ensures (c.args.at + (c.loop-place.place + c.line_from-end.result.feed))) in
    let more = lines_at (c.args.at + (c.loop-place.place + (c.line_from-end.result.feed + 1))) (drop (c.loop-place.place + (c.line_from-end.result.feed + 1)) c.args.bytes.now) in
    let fault = c.loop-place.invariant.1 ∙ ap (body_fault c.loop-place.leading c.args.above c.args.indent) (c.line_from-end.ensures.first c.args.at) in
    let seen = seen-line c.args.indent c.args.at c.args.bytes.now c.loop-place.found c.loop-place.place c.line_from-end.result.text c.line_from-end.result.feed c.break_at.result c.loop-place.invariant.0 (c.line_from-end.ensures.first c.args.at) c.break_at.ensures
    (omega (arith, c.line_from-end.ensures.within)) (omega (arith, c.line_from-end.ensures.within)) in
    elim c.match-role.branch [
      | in-Spaces w ↦ let t = rw w.in-Spaces.is at told in rw (c.with_line-found.ensures, w.leading-is) (seen t.0, fault ∙ t.1 more)
      | in-Text w ↦ let t = rw w.in-Text.is at told in rw (c.with_line-found.ensures, w.leading-is) (seen t.0, fault ∙ t.1 more)
    ]

pub returns-after-loop-place : goal.returns-after-loop-place
returns-after-loop-place c = (
  found c.args.indent c.args.at c.args.bytes.now c.loop-place.found c.loop-place.place c.loop-place.invariant.0 (ends-past c.args.indent c.args.at c.args.bytes.now c.loop-place.place c.loop-place-test.false),
  c.loop-place.invariant.1 ∙ none-past c.loop-place.leading c.args.above c.args.indent c.args.at c.args.bytes.now c.loop-place.place c.loop-place-test.false,
)

pub returns-in-Behind : goal.returns-in-Behind
returns-in-Behind c =
    let t = rw (c.in-Behind.is, c.before-line.ensures, c.past.ensures) at (c.in-Ok.ensures (c.args.at + (c.loop-place.place + c.line_from-end.result.feed))) in
    let more = lines_at (c.args.at + (c.loop-place.place + (c.line_from-end.result.feed + 1))) (drop (c.loop-place.place + (c.line_from-end.result.feed + 1)) c.args.bytes.now) in (
      found c.args.indent c.args.at c.args.bytes.now c.loop-place.found c.loop-place.place c.loop-place.invariant.0 (ends-there c.args.indent _ _ _ (c.line_from-end.ensures.first c.args.at) t.0),
      c.loop-place.invariant.1 ∙ ap (body_fault c.loop-place.leading c.args.above c.args.indent) (c.line_from-end.ensures.first c.args.at) ∙ t.1 more,
    )

pub returns-in-Err : goal.returns-in-Err
returns-in-Err c =
    broken-there c.args.leads c.loop-place.leading c.args.above c.args.indent (lines_at c.args.at c.args.bytes.now) _ _ _ c.in-Err.refusal c.loop-place.invariant.1 (c.line_from-end.ensures.first c.args.at)
    (rw (c.before-line.ensures, c.past.ensures) at (c.in-Err.ensures (c.args.at + (c.loop-place.place + c.line_from-end.result.feed))))
