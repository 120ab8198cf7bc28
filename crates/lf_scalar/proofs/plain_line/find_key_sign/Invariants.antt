use Rattle.std.proofs.Common.{◌≡◌, ◌<◌, ℕ, false}
use Rattle.lf_scalar.specs.reading.Plain.{key_at}
use Rattle.lf_scalar.proofs.plain_line.find_key_sign.Given as goal

abbrev pub invariant-loop-i : goal.invariant-loop-i
invariant-loop-i l = (k : ℕ) → k < l.i → key_at l.text k ≡ false
