-- Names as a text shows them.
use Rattle.std.specs.Prelude.{ℕ, false, ◌==◌, ◌||◌, ◌/◌, ◌%◌, nat_lt, [], ◌∷◌, ◌++◌, codes, if◌then◌else◌}
use Rattle.std.specs.Fmt.{digit_glyph}
use Rattle.std.specs.List.{flat_map}
use Rattle.lf_ast.specs.Labels.{Bytes}

-- a byte of a name: control characters as `\x` and two hexadecimal digits
abbrev pub shown_byte : ℕ → Bytes
shown_byte b = if nat_lt b 32 || b == 127 then codes "\\x" ++ digit_glyph false (b / 16) ∷ digit_glyph false (b % 16) ∷ [] else b ∷ []

-- a name, so that it stays on its line
abbrev pub shown : Bytes → Bytes
shown name = flat_map shown_byte name
