use Rattle.std.proofs.Common.{arith, length, refl, ◌∙◌, ◌+◌}
use Rattle.lf_scalar.proofs.BodyIndent.{indent-low, indent-here, indent-later, indent-none, longer}
use Rattle.lf_scalar.proofs.body.told_indent.Goals as goal

pub returns-then-indent-above-clause-value : goal.returns-then-indent-above-clause-value
returns-then-indent-above-clause-value c = λ at.
    indent-low c.args.above c.loop-place.longest at c.args.body.now c.loop-place.place c.line_from-end.result.text c.line_from-end.result.feed c.spaces-indent.result (c.loop-place.invariant.0 at) (c.line_from-end.ensures.first at) (omega (arith, c.line_from-end.ensures.within))
    (c.spaces-indent.ensures.count (at + c.loop-place.place) ∙ rw (c.before-in-loop-place.ensures, c.past.ensures) refl) c.if-indent-end.true c.if-indent-above.true

pub returns-else-indent-above-clause-value : goal.returns-else-indent-above-clause-value
returns-else-indent-above-clause-value c = λ at.
    indent-here c.args.above c.loop-place.longest at c.args.body.now c.loop-place.place c.line_from-end.result.text c.line_from-end.result.feed c.spaces-indent.result (c.loop-place.invariant.0 at) (c.line_from-end.ensures.first at) (omega (arith, c.line_from-end.ensures.within))
    (c.spaces-indent.ensures.count (at + c.loop-place.place) ∙ rw (c.before-in-loop-place.ensures, c.past.ensures) refl) c.if-indent-end.true c.if-indent-above.false

pub returns-clause-value : goal.returns-clause-value
returns-clause-value c = λ at. indent-none c.args.above c.loop-place.longest at c.args.body.now c.loop-place.place (c.loop-place.invariant.0 at) c.loop-place-test.false

pub loop-place-preserved : goal.loop-place-preserved
loop-place-preserved c = rw c.max-longest.ensures (
  λ at.
      indent-later c.args.above c.loop-place.longest at c.args.body.now c.loop-place.place c.line_from-end.result.text c.line_from-end.result.feed c.spaces-indent.result (c.loop-place.invariant.0 at) (c.line_from-end.ensures.first at) (omega (arith, c.line_from-end.ensures.within))
      (c.spaces-indent.ensures.count (at + c.loop-place.place) ∙ rw (c.before-in-loop-place.ensures, c.past.ensures) refl) c.if-indent-end.false,
  omega (arith, c.line_from-end.ensures.within),
  longer c.loop-place.longest c.line_from-end.result.text (length c.args.body.now) c.args.above (omega (arith, c.line_from-end.ensures.within)) c.loop-place.invariant.2,
)
