use Rattle.std.proofs.Common.{sym, ◌∙◌, ap}
use Rattle.lf_templates.specs.Tokens.{ends_comment}
use Rattle.lf_templates.proofs.Passing.{searched-start, searched-ends, searched-moves, searched-none, searched-within}
use Rattle.lf_templates.proofs.strings.comment_len.Goals as goal

pub loop-i-init : goal.loop-i-init
loop-i-init c = searched-start c.args.rest.now

pub loop-i-preserved : goal.loop-i-preserved
loop-i-preserved c = sym (searched-moves c.args.rest.now c.loop-i.i c.loop-i-test.true (sym (ap ends_comment c.after.ensures) ∙ sym c.starts_with.ensures ∙ c.if-starts_with.false)) ∙ c.loop-i.invariant

pub returns-then-starts_with-clause-value : goal.returns-then-starts_with-clause-value
returns-then-starts_with-clause-value c = sym (searched-ends c.args.rest.now c.loop-i.i c.loop-i-test.true (sym (ap ends_comment c.after.ensures) ∙ sym c.starts_with.ensures ∙ c.if-starts_with.true)) ∙ c.loop-i.invariant

pub returns-then-starts_with-clause-within : goal.returns-then-starts_with-clause-within
returns-then-starts_with-clause-within c = searched-within c.args.rest.now c.loop-i.i (sym (ap ends_comment c.after.ensures) ∙ sym c.starts_with.ensures ∙ c.if-starts_with.true)

pub returns-clause-value : goal.returns-clause-value
returns-clause-value c = sym (searched-none c.args.rest.now c.loop-i.i c.loop-i-test.false) ∙ c.loop-i.invariant
