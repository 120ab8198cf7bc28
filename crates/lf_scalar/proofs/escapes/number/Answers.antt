use Rattle.std.proofs.Common.{◌≡◌, ℕ, Option, Some, None, refl, arith, sym, ◌∙◌}
use Rattle.lf_scalar.proofs.Numbers.{most-small, most-more, told-digit, told-none, told-end}
use Rattle.lf_scalar.proofs.escapes.number.Goals as goal

pub overflow_add-value : goal.overflow_add-value
overflow_add-value c = omega (arith, most-small c.loop-byte.byte-index (omega arith), c.loop-byte.invariant.0, c.in-Some.ensures.small, c.from.ensures)

pub loop-byte-preserved : goal.loop-byte-preserved
loop-byte-preserved c = rw c.from.ensures (most-more c.loop-byte.byte-index c.loop-byte.value c.in-Some.next c.loop-byte.invariant.0 c.in-Some.ensures.small, c.loop-byte.invariant.1 ∙ told-digit c.args.at c.args.digits.now c.loop-byte.byte-index c.loop-byte-test.true c.loop-byte.value c.in-Some.next c.in-Some.ensures.value)

pub returns : goal.returns
returns c = sym (c.loop-byte.invariant.1 ∙ told-end c.args.at c.loop-byte.value c.args.digits.now c.loop-byte.byte-index c.loop-byte-test.false)

none-of : (o : Option ℕ) → ((x : ℕ) → o ≡ Some x → ⊥) → None ≡ o
none-of None h = refl
none-of (Some x) h = absurd (h x refl)

pub returns-in_default : goal.returns-in_default
returns-in_default c = sym (c.loop-byte.invariant.1 ∙ told-none c.args.at c.args.digits.now c.loop-byte.byte-index c.loop-byte-test.true c.loop-byte.value (none-of c.hexadecimal_value.result c.in_default.not-Some ∙ c.hexadecimal_value.ensures.value))
