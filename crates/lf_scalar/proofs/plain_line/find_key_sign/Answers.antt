use Rattle.std.proofs.Common.{sym, ◌∙◌, arith}
use Rattle.lf_scalar.proofs.PlainText.{key-found, no-key}
use Rattle.lf_scalar.proofs.plain_line.find_key_sign.Goals as goal

pub returns-then-is_key_sign-clause-value : goal.returns-then-is_key_sign-clause-value
returns-then-is_key_sign-clause-value c = λ at. key-found at c.args.text.now c.loop-i.i (omega arith) c.loop-i.invariant (sym c.is_key_sign.ensures ∙ c.if-is_key_sign.true)

pub returns-clause-value : goal.returns-clause-value
returns-clause-value c = λ at. no-key at c.args.text.now (λ k h. c.loop-i.invariant k (omega arith))
