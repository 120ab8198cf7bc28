-- The digits of hexadecimal numbers are bytes of ASCII.
use Rattle.std.proofs.Common.{◌≡◌, ℕ, ◌<◌, Some, arith}
use Rattle.std.proofs.lemmas.Bool.Decides.{nat_tests}
use Rattle.lf_base.specs.Names.{hexadecimal_value}

pub digit_low : (byte d : ℕ) → hexadecimal_value byte ≡ Some d → byte < 128
unfolding hexadecimal_value
digit_low byte d e = grind (arith, nat_tests)
