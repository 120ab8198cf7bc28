-- Digits are the characters that are worth less than ten.
use Rattle.std.proofs.Common.{◌≡◌, ℕ, ◌<◌, true, arith}
use Rattle.std.specs.Char.{digit_value}
use Rattle.std.proofs.lemmas.Bool.Decides.{nat_tests}
use Rattle.lf_pattern.specs.ShapeScan.{is_digit}

pub digit-is : (c : ℕ) → digit_value c < 10 → is_digit c ≡ true
digit-is c h = grind (arith, nat_tests)

pub digit-below : (c : ℕ) → is_digit c ≡ true → digit_value c < 10
digit-below c h = grind (arith, nat_tests)
