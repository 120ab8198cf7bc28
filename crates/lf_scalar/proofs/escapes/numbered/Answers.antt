use Rattle.std.proofs.Common.{sym}
use Rattle.lf_scalar.proofs.EscapeLaws.{number-short, number-none, number-some}
use Rattle.lf_scalar.proofs.escapes.numbered.Goals as goal

pub returns-then-digits-width-clause-value : goal.returns-then-digits-width-clause-value
returns-then-digits-width-clause-value c = λ b e. sym (number-short b e c.args.width c.args.at c.args.digits.now c.if-digits-width.true)

pub returns-in-Some-clause-value : goal.returns-in-Some-clause-value
returns-in-Some-clause-value c = λ b e. number-some b e c.args.width c.args.at c.args.digits.now c.in-Some.code c.from_u32.result c.if-digits-width.false (sym c.in-Some.ensures) c.from_u32.ensures.value

pub returns-in-None-clause-value : goal.returns-in-None-clause-value
returns-in-None-clause-value c = λ b e. sym (number-none b e c.args.width c.args.at c.args.digits.now c.if-digits-width.false (sym c.in-None.ensures))
