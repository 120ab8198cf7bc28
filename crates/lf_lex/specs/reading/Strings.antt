-- A way of reading strings in quotes, which defines nothing: what their escapes give.
use Rattle.std.specs.Prelude.{ℕ, zero, suc, ◌+◌, ◌*◌, ◌-◌, List, [], ◌∷◌, ◌++◌, map, slice_index, drop, Bool, ◌==◌, ◌&&◌, ◌||◌, nat_lt, Option, Some, None, encode_utf8, if◌then◌else◌}
use Rattle.lf_lex.specs.Bytes.{is_octal}
use Rattle.lf_base.specs.Names.{is_digit, hexadecimal_value}
use Rattle.lf_lex.specs.Strings.{byte_of_letter}

-- ---- escapes

abbrev pub both : ℕ → Option ℕ → Option ℕ → Option ℕ
both base None n = None
both base (Some m) None = None
both base (Some m) (Some n) = Some (base * m + n)

-- the number of the two, four or eight hexadecimal digits at the front
unfoldable pub two_digits : List ℕ → Option ℕ
two_digits [] = None
two_digits (h ∷ []) = None
two_digits (h ∷ l ∷ more) = both 16 (hexadecimal_value h) (hexadecimal_value l)

unfoldable pub four_digits : List ℕ → Option ℕ
four_digits src = both 256 (two_digits src) (two_digits (drop 2 src))

unfoldable pub eight_digits : List ℕ → Option ℕ
eight_digits src = both 65536 (four_digits src) (four_digits (drop 4 src))

-- the number of the three octal digits at the front, which is at most 377 in octal
unfoldable pub octal_byte : List ℕ → Option ℕ
octal_byte [] = None
octal_byte (a ∷ []) = None
octal_byte (a ∷ b ∷ []) = None
octal_byte (a ∷ b ∷ c ∷ more) = if is_octal a && is_octal b && is_octal c && nat_lt a 52 then Some (64 * (a - 48) + 8 * (b - 48) + (c - 48)) else None

-- A Unicode scalar value: no surrogate, and at most 10FFFF.
unfoldable pub is_scalar : ℕ → Bool
is_scalar n = nat_lt n 0xD800 || (nat_lt 0xDFFF n && nat_lt n 0x110000)

-- what an escape gives, and how many bytes tell it behind the backslash
abbrev pub as_byte : ℕ → Option ℕ → Option (List ℕ × ℕ)
as_byte count None = None
as_byte count (Some byte) = Some (byte ∷ [], count)

abbrev pub as_character : ℕ → Option ℕ → Option (List ℕ × ℕ)
as_character count None = None
as_character count (Some n) = if is_scalar n then Some (encode_utf8 n, count) else None

-- The escape behind a backslash in a string with this quote: a letter of those above, the quote, three octal digits, x and two, u and four, U and eight
-- hexadecimal digits.
unfoldable pub escape : ℕ → List ℕ → Option (List ℕ × ℕ)
escape quote [] = None
escape quote (e ∷ src) =
    if e == quote then Some (quote ∷ [], 1) else if e == 120 then as_byte 3 (two_digits src) else if e == 117 then as_character 5 (four_digits src) else if e == 85 then as_character 9 (eight_digits src) else if is_digit e then as_byte 3 (octal_byte (e ∷ src)) else as_byte 1 (byte_of_letter e)

-- ---- what stands between the quotes

-- a byte of the string's value, and the place of what gave it between the quotes: its own, or that of the backslash
pub record PlacedByte : Type 0 where
  pub byte : ℕ
  pub place : ℕ

abbrev pub placed : ℕ → ℕ → PlacedByte
placed place byte = record { byte = byte; place = place }

-- What the front gives, and how many bytes behind the first belong to it: a byte gives itself, and an escape what it stands for. A backslash with which no
-- escape begins gives the byte 255, which stands in no UTF-8, so that no string has it.
abbrev pub or_no_utf8 : Option (List ℕ × ℕ) → List ℕ × ℕ
or_no_utf8 None = (255 ∷ [], 0)
or_no_utf8 (Some e) = e

unfoldable pub piece : ℕ → List ℕ → List ℕ × ℕ
piece quote src = if slice_index src 0 == 92 then or_no_utf8 (escape quote (drop 1 src)) else (slice_index src 0 ∷ [], 0)

-- What the bytes between the quotes give, the first of them at a place. `skipped` bytes at the front belong to an escape.
unfoldable pub gives : ℕ → ℕ → ℕ → List ℕ → List PlacedByte
gives quote place skipped [] = []
gives quote place (suc skipped) (b ∷ src) = gives quote (suc place) skipped src
gives quote place zero (b ∷ src) = let p = piece quote (b ∷ src) in map (placed place) p.0 ++ gives quote (suc place) p.1 src

abbrev pub bytes_of : List PlacedByte → List ℕ
bytes_of gs = map (λ g. g.byte) gs

abbrev pub places_of : List PlacedByte → List ℕ
places_of gs = map (λ g. g.place) gs
