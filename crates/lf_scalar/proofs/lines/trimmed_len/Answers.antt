use Rattle.std.proofs.Common.{sym, ◌∙◌, ◌≡◌, ◌-◌, arith, get_or}
use Rattle.lf_scalar.proofs.PlainText.{trimmed-is}
use Rattle.lf_scalar.proofs.SmallBytes.{small-blank}
use Rattle.lf_scalar.proofs.lines.trimmed_len.Goals as goal

pub returns-after-loop-len-clause-text : goal.returns-after-loop-len-clause-text
returns-after-loop-len-clause-text c = λ at. trimmed-is at c.args.text.now c.loop-len.len c.loop-len.invariant.0 c.loop-len.invariant.1 (λ m e. absurd (omega arith))

pub returns-then-not-is_blank_byte-clause-text : goal.returns-then-not-is_blank_byte-clause-text
returns-then-not-is_blank_byte-clause-text c =
    λ at. trimmed-is at c.args.text.now c.loop-len.len c.loop-len.invariant.0 c.loop-len.invariant.1 (λ m e. let p : c.loop-len.len - 1 ≡ m = omega (arith, e) in rw p at (sym c.is_blank_byte.ensures ∙ c.if-not-is_blank_byte.true))

pub returns-after-loop-len-clause-ascii : goal.returns-after-loop-len-clause-ascii
returns-after-loop-len-clause-ascii c = λ lt. small-blank (get_or c.args.text.now c.loop-len.len 0) 0 (c.loop-len.invariant.1 c.loop-len.len (omega arith) lt)

pub returns-then-not-is_blank_byte-clause-ascii : goal.returns-then-not-is_blank_byte-clause-ascii
returns-then-not-is_blank_byte-clause-ascii c = λ lt. small-blank (get_or c.args.text.now c.loop-len.len 0) 0 (c.loop-len.invariant.1 c.loop-len.len (omega arith) lt)
