-- Runs of digits and letters, and which of them are numbers.
use Rattle.std.specs.Prelude.{◌≡◌, ℕ, ◌+◌, ◌<◌, List, [], ◌∷◌, ◌++◌, length, Bool, true, false, ◌||◌, ◌&&◌}
use Rattle.lf_base.specs.Rows.{Each}
use Rattle.lf_lex.specs.Bytes.{AreSome, is_dot, is_exponent, is_plus_minus, is_in_run, is_in_mantissa}
use Rattle.lf_base.specs.Names.{is_digit, is_hexadecimal}

-- ---- runs

-- a digit, or a dot before a digit
abbrev pub begins_run : List ℕ → Bool
begins_run [] = false
begins_run (b ∷ []) = is_digit b
begins_run (b ∷ c ∷ more) = is_digit b || (is_dot b && is_digit c)

-- A row of digits, letters, underscores and dots. One + or - may stand in it, right behind an e or E that only digits and dots precede.
pub data IsRunRow (row : List ℕ) : Type 0 where
  plain_row : Each is_in_run row → IsRunRow row
  signed_row : (front : List ℕ) (e sign : ℕ) (more : List ℕ) →
      row ≡ front ++ e ∷ sign ∷ more →
      Each is_in_mantissa front → is_exponent e ≡ true → is_plus_minus sign ≡ true → Each is_in_run more →
      IsRunRow row

-- A run is such a row that begins with a digit, or with a dot before a digit.
abbrev pub IsRun : List ℕ → Type 0
IsRun run = (begins_run run ≡ true) × IsRunRow run

-- ---- numbers

-- 0x or 0X and hexadecimal digits
pub data IsHexadecimal (run : List ℕ) : Type 0 where
  lower_x : (digits : List ℕ) → run ≡ 48 ∷ 120 ∷ digits → AreSome is_hexadecimal digits → IsHexadecimal run
  upper_x : (digits : List ℕ) → run ≡ 48 ∷ 88 ∷ digits → AreSome is_hexadecimal digits → IsHexadecimal run

-- digits with at most one dot, and at least one digit
pub data IsMantissa (front : List ℕ) : Type 0 where
  no_dot : AreSome is_digit front → IsMantissa front
  one_dot : (before behind : List ℕ) →
      front ≡ before ++ 46 ∷ behind → Each is_digit before → Each is_digit behind → 0 < length before + length behind →
      IsMantissa front

-- e or E, perhaps a sign, and digits; or nothing
pub data IsExponent (back : List ℕ) : Type 0 where
  no_exponent : back ≡ [] → IsExponent back
  unsigned_exponent : (e : ℕ) (digits : List ℕ) → back ≡ e ∷ digits → is_exponent e ≡ true → AreSome is_digit digits → IsExponent back
  signed_exponent : (e sign : ℕ) (digits : List ℕ) →
      back ≡ e ∷ sign ∷ digits → is_exponent e ≡ true → is_plus_minus sign ≡ true → AreSome is_digit digits →
      IsExponent back

pub data IsNumberRun (run : List ℕ) : Type 0 where
  hexadecimal_number : IsHexadecimal run → IsNumberRun run
  decimal_number : (front back : List ℕ) → run ≡ front ++ back → IsMantissa front → IsExponent back → IsNumberRun run
