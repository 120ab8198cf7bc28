-- Strings.
use Rattle.std.specs.Prelude.{◌≡◌, ◌≢◌, ◌⊎◌, ℕ, ◌+◌, ◌*◌, ◌-◌, ◌<◌, List, [], ◌∷◌, ◌++◌, length, ◌==◌, ◌&&◌, nat_le, Option, Some, None, encode_utf8, if◌then◌else◌}
use Rattle.std.specs.List.{flat_map, AllByRecursion}
use Rattle.std.specs.Char.{IsScalar}
use Rattle.std.specs.Str.{IsUtf8}
use Rattle.lf_base.specs.Rows.{is_no_back_quote, Each}
use Rattle.lf_base.specs.Names.{hexadecimal_value}

-- the quotes " and '
abbrev pub IsQuote : ℕ → Type 0
IsQuote quote = (quote ≡ 34) ⊎ (quote ≡ 39)

-- ---- where a string in quotes closes

-- what stands between the quotes: a byte for itself, or a backslash and the byte behind it
pub data StringRaw : Type 0 where
  One : ℕ → StringRaw
  Pair : ℕ → StringRaw

abbrev pub raw : StringRaw → List ℕ
raw (One b) = b ∷ []
raw (Pair b) = 92 ∷ b ∷ []

-- no line feed stands there, and neither a quote nor a backslash for itself
abbrev pub IsStringRaw : ℕ → StringRaw → Type 0
IsStringRaw quote (One b) = (b ≢ quote) × (b ≢ 10) × (b ≢ 92)
IsStringRaw quote (Pair b) = b ≢ 10

-- `inner` can stand between quotes.
pub record IsStringInner (quote : ℕ) (inner : List ℕ) : Type 0 where
  pub raws : List StringRaw
  pub each : AllByRecursion (IsStringRaw quote) raws
  pub source : inner ≡ flat_map raw raws

-- ---- escapes

-- the byte that one letter behind a backslash stands for: a b f n r t v and the backslash
unfoldable pub byte_of_letter : ℕ → Option ℕ
byte_of_letter e =
    if e == 97 then Some 7 else if e == 98 then Some 8 else if e == 102 then Some 12 else if e == 110 then Some 10 else if e == 114 then Some 13 else if e == 116 then Some 9 else if e == 118 then Some 11 else if e == 92 then Some 92 else None

unfoldable pub octal_value : ℕ → Option ℕ
octal_value b = if nat_le 48 b && nat_le b 55 then Some (b - 48) else None

-- the number that digits tell in a base, behind digits that tell a number
abbrev pub Tell : ℕ → (ℕ → Option ℕ) → ℕ → List ℕ → ℕ → Type 0
Tell base value before [] n = n ≡ before
Tell base value before (d ∷ digits) n = (v : ℕ) × (value d ≡ Some v) × Tell base value (base * before + v) digits n

-- `IsEscape quote tail bytes`: in a string with this quote a backslash and `tail` stand for these bytes.
pub data IsEscape (quote : ℕ) (tail bytes : List ℕ) : Type 0 where
  -- a letter of the table
  a_letter : (e b : ℕ) → tail ≡ e ∷ [] → byte_of_letter e ≡ Some b → bytes ≡ b ∷ [] → IsEscape quote tail bytes
  -- the quote that opened the string
  the_quote : tail ≡ quote ∷ [] → bytes ≡ quote ∷ [] → IsEscape quote tail bytes
  -- three octal digits that tell a byte, so at most 377
  octal_byte : (n : ℕ) → length tail ≡ 3 → Tell 8 octal_value 0 tail n → n < 256 → bytes ≡ n ∷ [] → IsEscape quote tail bytes
  -- x and two hexadecimal digits that tell a byte
  hexadecimal_byte : (digits : List ℕ) (n : ℕ) → tail ≡ 120 ∷ digits → length digits ≡ 2 → Tell 16 hexadecimal_value 0 digits n → bytes ≡ n ∷ [] → IsEscape quote tail bytes
  -- u and four hexadecimal digits that tell a character
  short_character : (digits : List ℕ) (c : ℕ) →
      tail ≡ 117 ∷ digits → length digits ≡ 4 → Tell 16 hexadecimal_value 0 digits c → IsScalar c → bytes ≡ encode_utf8 c →
      IsEscape quote tail bytes
  -- U and eight
  long_character : (digits : List ℕ) (c : ℕ) →
      tail ≡ 85 ∷ digits → length digits ≡ 8 → Tell 16 hexadecimal_value 0 digits c → IsScalar c → bytes ≡ encode_utf8 c →
      IsEscape quote tail bytes

-- ---- what a string in quotes stands for

-- a byte for itself, or an escape: what stands behind the backslash, and the bytes that it stands for
pub data StringPiece : Type 0 where
  Bare : ℕ → StringPiece
  Escape : List ℕ → List ℕ → StringPiece

abbrev pub piece_text : StringPiece → List ℕ
piece_text (Bare b) = b ∷ []
piece_text (Escape tail bytes) = 92 ∷ tail

abbrev pub meant : StringPiece → List ℕ
meant (Bare b) = b ∷ []
meant (Escape tail bytes) = bytes

abbrev pub IsStringPiece : ℕ → StringPiece → Type 0
IsStringPiece quote (Bare b) = b ≢ 92
IsStringPiece quote (Escape tail bytes) = IsEscape quote tail bytes

-- What stands between the quotes is pieces, and these stand for the value.
pub record HasValue (quote : ℕ) (inner value : List ℕ) : Type 0 where
  pub pieces : List StringPiece
  pub each : AllByRecursion (IsStringPiece quote) pieces
  pub source : inner ≡ flat_map piece_text pieces
  pub value_is : value ≡ flat_map meant pieces

-- ---- strings

pub data IsString (text value : List ℕ) : Type 0 where
  -- in quotes, on one line, with escapes; its value is UTF-8
  in_quotes : (quote : ℕ) (inner : List ℕ) →
      IsQuote quote → text ≡ quote ∷ (inner ++ quote ∷ []) → IsStringInner quote inner → HasValue quote inner value → IsUtf8 value →
      IsString text value
  -- in back quotes, taken as it stands
  in_back_quotes : text ≡ 96 ∷ (value ++ 96 ∷ []) → Each is_no_back_quote value → IsString text value
