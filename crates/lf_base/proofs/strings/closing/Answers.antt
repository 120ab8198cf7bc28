use Rattle.std.proofs.Common.{sym, ◌∙◌}
use Rattle.lf_base.proofs.Quotes.{passed-start, passed-closes, passed-stops, passed-moves, passed-ends}
use Rattle.lf_base.proofs.strings.closing.Goals as goal

pub loop-i-init : goal.loop-i-init
loop-i-init c = passed-start c.args.stop c.args.quote c.args.rest.now

pub loop-i-preserved : goal.loop-i-preserved
loop-i-preserved c = rw c.is_bare-skip.ensures (sym (passed-moves c.args.stop c.args.quote c.args.rest.now c.loop-i.i c.loop-i-test.true c.loop-i.skip (sym c.is_bare.ensures ∙ c.if-is_bare.false) (sym c.stops.ensures ∙ c.if-stops.false)) ∙ c.loop-i.invariant)

pub returns-then-is_bare-clause-value : goal.returns-then-is_bare-clause-value
returns-then-is_bare-clause-value c = sym (passed-closes c.args.stop c.args.quote c.args.rest.now c.loop-i.i c.loop-i-test.true c.loop-i.skip (sym c.is_bare.ensures ∙ c.if-is_bare.true)) ∙ c.loop-i.invariant

pub returns-then-stops-clause-value : goal.returns-then-stops-clause-value
returns-then-stops-clause-value c = sym (passed-stops c.args.stop c.args.quote c.args.rest.now c.loop-i.i c.loop-i-test.true c.loop-i.skip (sym c.is_bare.ensures ∙ c.if-is_bare.false) (sym c.stops.ensures ∙ c.if-stops.true)) ∙ c.loop-i.invariant

pub returns-clause-value : goal.returns-clause-value
returns-clause-value c = sym (passed-ends c.args.stop c.args.quote c.args.rest.now c.loop-i.i c.loop-i.skip c.loop-i-test.false) ∙ c.loop-i.invariant
