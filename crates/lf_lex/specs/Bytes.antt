-- The classes of bytes that tokens are made of. Letters and digits are those of names.
use Rattle.std.specs.Prelude.{◌≡◌, ℕ, List, [], ◌∷◌, Bool, true, false, not, ◌==◌, ◌||◌, ◌&&◌, nat_le}
use Rattle.std.specs.List.{list_all}
use Rattle.lf_base.specs.Names.{is_digit, is_letter, begins_label}

-- There is a byte, and each is of a class.
abbrev pub are_some : (ℕ → Bool) → List ℕ → Bool
are_some test [] = false
are_some test (b ∷ more) = test b && list_all test more

abbrev pub AreSome : (ℕ → Bool) → List ℕ → Type 0
AreSome test bs = are_some test bs ≡ true

-- a space, a tab, a line feed, a carriage return
unfoldable pub is_blank : ℕ → Bool
is_blank b = b == 32 || b == 9 || b == 10 || b == 13

-- a line feed or a carriage return, which end a comment
unfoldable pub is_line_break : ℕ → Bool
is_line_break b = b == 10 || b == 13

abbrev pub is_no_line_break : ℕ → Bool
is_no_line_break b = not (is_line_break b)

-- 0 to 7
unfoldable pub is_octal : ℕ → Bool
is_octal b = nat_le 48 b && nat_le b 55

-- a dot
unfoldable pub is_dot : ℕ → Bool
is_dot b = b == 46

-- e or E
unfoldable pub is_exponent : ℕ → Bool
is_exponent b = b == 101 || b == 69

-- + or -
unfoldable pub is_plus_minus : ℕ → Bool
is_plus_minus b = b == 43 || b == 45

-- A word begins as a label name does or, outside brackets, with a colon.
unfoldable pub begins_word : Bool → ℕ → Bool
begins_word inside b = begins_label b || (b == 58 && not inside)

-- It goes on with these and with digits.
unfoldable pub is_in_word : Bool → ℕ → Bool
is_in_word inside b = begins_word inside b || is_digit b

-- what a run is made of but for the sign of an exponent: digits, letters, underscores and dots
unfoldable pub is_in_run : ℕ → Bool
is_in_run b = is_digit b || is_letter b || b == 95 || b == 46

-- the part of a run in front of an exponent: digits and dots
unfoldable pub is_in_mantissa : ℕ → Bool
is_in_mantissa b = is_digit b || is_dot b

-- a byte that continues a character of several bytes
unfoldable pub is_continuation : ℕ → Bool
is_continuation b = nat_le 128 b && nat_le b 191
