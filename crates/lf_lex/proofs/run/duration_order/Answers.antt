use Rattle.std.proofs.Common.{sym, ◌∙◌, ap, length, arith}
use Rattle.lf_lex.specs.reading.Runs.{unit_at}
use Rattle.lf_lex.proofs.Units.{order-start, order-ended, part-none, part-wrong, part-read, not-empty, is-empty}
use Rattle.lf_lex.proofs.run.duration_order.Goals as goal

pub loop-rest-init : goal.loop-rest-init
loop-rest-init c = order-start c.args.run.now

pub loop-rest-preserved : goal.loop-rest-preserved
loop-rest-preserved c =
    rw (c.keeps_order-ordered.ensures, c.after-rest.ensures, c.after-behind.ensures) (sym (part-read c.loop-rest.ordered c.loop-rest.least c.loop-rest.rest.now c.prefix_len-digits.result c.prefix_len-digits.ensures.value (omega arith) c.in-Some.place c.in-Some.len (c.in-Some.ensures.value ∙ ap unit_at c.after-behind.ensures)) ∙ c.loop-rest.invariant)

pub returns-then-digits-eq0 : goal.returns-then-digits-eq0
returns-then-digits-eq0 c =
    sym (part-none c.loop-rest.ordered c.loop-rest.least c.loop-rest.rest.now c.prefix_len-digits.result c.prefix_len-digits.ensures.value (not-empty (length c.loop-rest.rest.now) c.is_empty.result c.is_empty.ensures c.loop-rest-test.true) c.if-digits-eq0.true) ∙ c.loop-rest.invariant

pub returns-in_default : goal.returns-in_default
returns-in_default c =
    sym (part-wrong c.loop-rest.ordered c.loop-rest.least c.loop-rest.rest.now c.prefix_len-digits.result c.prefix_len-digits.ensures.value (omega arith) (sym c.in_default.is ∙ c.unit_at.ensures.value ∙ ap unit_at c.after-behind.ensures)) ∙ c.loop-rest.invariant

pub returns : goal.returns
returns c =
    sym (order-ended c.loop-rest.ordered c.loop-rest.least c.loop-rest.rest.now (is-empty (length c.loop-rest.rest.now) c.is_empty.result c.is_empty.ensures c.loop-rest-test.false)) ∙ c.loop-rest.invariant
