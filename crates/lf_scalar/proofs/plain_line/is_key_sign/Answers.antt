use Rattle.std.proofs.Common.{◌∙◌, arith}
use Rattle.std.proofs.lemmas.Bool.{ne_eqb}
use Rattle.lf_scalar.proofs.PlainText.{key-last, key-next, key-other}
use Rattle.lf_scalar.proofs.plain_line.is_key_sign.Goals as goal

pub returns-then-i-text : goal.returns-then-i-text
returns-then-i-text c = key-last c.args.text.now c.args.i c.requires c.if-text-i-eq58.true c.if-i-text.true

pub returns-else-i-text : goal.returns-else-i-text
returns-else-i-text c = c.is_blank_byte.ensures ∙ key-next c.args.text.now c.args.i (omega (arith, c.requires, c.if-i-text.false)) c.if-text-i-eq58.true

pub returns-else-text-i-eq58 : goal.returns-else-text-i-eq58
returns-else-text-i-eq58 c = ne_eqb _ 58 c.if-text-i-eq58.false ∙ key-other c.args.text.now c.args.i c.requires c.if-text-i-eq58.false
