-- A way of reading how a scalar begins, by the first two bytes of its line. It defines nothing.
use Rattle.std.specs.Prelude.{ℕ, List, [], ◌∷◌, Bool, false, not, Option, Some, None, ◌==◌, ◌&&◌, ◌||◌}
use Rattle.lf_scalar.specs.declared.scalar.Style.{Style}
use Rattle.lf_scalar.specs.declared.scalar.Style.TheVariants as style
use Rattle.lf_scalar.specs.Cells.{Cell, cell}
use Rattle.lf_scalar.specs.Lines.{is_blank}
use Rattle.lf_scalar.specs.Plain.{is_plain_byte, is_sign}

abbrev pub first_byte_of : List Cell → Option ℕ
first_byte_of [] = None
first_byte_of (c ∷ cs) = Some c.byte

-- there is a byte, and it is no blank
abbrev pub is_full_byte : Option ℕ → Bool
is_full_byte None = false
is_full_byte (Some byte) = not (is_blank (cell byte 0))

abbrev pub begins_by : Style → Option ℕ → Option ℕ → Bool
begins_by s None second = false
begins_by style.Plain (Some byte) second = is_plain_byte (cell byte 0) || (is_sign (cell byte 0) && is_full_byte second)
begins_by style.Single (Some byte) second = byte == 39
begins_by style.Double (Some byte) second = byte == 34
begins_by style.Literal (Some byte) second = byte == 124
begins_by style.Folded (Some byte) second = byte == 62
