-- Which characters a file may hold: tabs, line feeds, carriage returns right before a line feed, and the printable characters of YAML 1.2 but U+0085, U+2028 and U+2029. A
-- byte order mark may stand at its start alone.
use Rattle.std.specs.Prelude.{◌≡◌, ◌<◌, ◌≤◌, ℕ, Bool, true, false, not, ◌&&◌, ◌||◌, eqb, nat_lt, bytes_eq, List, [], ◌∷◌, length, take, drop, get_or, ◌⊎◌, IsUtf8, if◌then◌else◌}
use Rattle.std.specs.Str.{IsValidUpTo}
use Rattle.lf_base.specs.declared.kind.Kind.TheVariants.{BadUtf8, BadChar}
use Rattle.lf_base.specs.declared.fault.Fault.{Fault}
use Rattle.lf_scalar.specs.Cells.{cell, byte_fault, character_fault}

-- some bytes begin with a text
abbrev pub begins : List ℕ → List ℕ → Bool
begins text bytes = bytes_eq (take (length text) bytes) text

-- the UTF-8 of U+FEFF
abbrev pub mark : List ℕ
mark = 0xEF ∷ 0xBB ∷ 0xBF ∷ []

-- how many bytes a byte order mark at the file's start has: it is skipped
abbrev pub mark_length : List ℕ → ℕ
mark_length bytes = if begins mark bytes then 3 else 0

-- U+0000 to U+001F, and U+007F
abbrev pub is_control : ℕ → Bool
is_control b = nat_lt b 32 || eqb b 127

abbrev pub is_line_feed_next : List ℕ → Bool
is_line_feed_next [] = false
is_line_feed_next (b ∷ bs) = eqb b 10

-- a control character stands first of some bytes, and is no tab, no line feed and no carriage return right before a line feed
abbrev pub is_wrong_control : List ℕ → Bool
is_wrong_control [] = false
is_wrong_control (b ∷ bs) = is_control b && not (eqb b 9 || (eqb b 10 || (eqb b 13 && is_line_feed_next bs)))

-- U+0080 to U+009F, whose UTF-8 is C2 and 80 to 9F
abbrev pub is_high_control : List ℕ → Bool
is_high_control (b ∷ c ∷ bs) = eqb b 0xC2 && nat_lt c 0xA0
is_high_control bytes = false

-- U+2028 and U+2029, U+FEFF, U+FFFE and U+FFFF
abbrev pub is_left_out : List ℕ → Bool
is_left_out bytes =
    begins (0xE2 ∷ 0x80 ∷ 0xA8 ∷ []) bytes
    || (begins (0xE2 ∷ 0x80 ∷ 0xA9 ∷ []) bytes || (begins mark bytes || (begins (0xEF ∷ 0xBF ∷ 0xBE ∷ []) bytes || begins (0xEF ∷ 0xBF ∷ 0xBF ∷ []) bytes)))

-- a character that isn't allowed stands first of some bytes
abbrev pub is_wrong : List ℕ → Bool
is_wrong bytes = is_wrong_control bytes || (is_high_control bytes || is_left_out bytes)

-- none stands behind the byte order mark
abbrev pub NoneWrong : List ℕ → Type 0
NoneWrong bytes = (k : ℕ) → mark_length bytes ≤ k → is_wrong (drop k bytes) ≡ false

-- the first stands at an offset
abbrev pub FirstWrong : List ℕ → ℕ → Type 0
FirstWrong bytes k = (mark_length bytes ≤ k) × (is_wrong (drop k bytes) ≡ true) × ((j : ℕ) → mark_length bytes ≤ j → j < k → is_wrong (drop j bytes) ≡ false)

abbrev pub AreCharacters : List ℕ → Type 0
AreCharacters bytes = IsUtf8 bytes × NoneWrong bytes

-- the bytes are UTF-8 up to an offset and no further; or they are UTF-8, and a character isn't allowed
abbrev pub BreaksCharacters : List ℕ → Fault → Type 0
BreaksCharacters bytes f =
    ((n : ℕ) × IsValidUpTo bytes n × (f ≡ byte_fault BadUtf8 n))
    ⊎ (IsUtf8 bytes × ((k : ℕ) × FirstWrong bytes k × (f ≡ character_fault BadChar (cell (get_or bytes k 0) k))))
