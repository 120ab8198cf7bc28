-- The markers between the documents of a file, which end a scalar between quotes in its middle.
use Rattle.std.specs.Prelude.{ℕ, List, ◌∷◌, Bool, false, ◌==◌, ◌&&◌, ◌||◌}
use Rattle.lf_scalar.specs.Cells.{Cell}
use Rattle.lf_scalar.specs.Lines.{Line}
use Rattle.lf_scalar.specs.Plain.{before_blank}

-- a byte three times, and then a blank or the line's end
abbrev pub is_thrice : ℕ → List Cell → Bool
is_thrice byte (c ∷ d ∷ e ∷ cs) = (c.byte == byte) && ((d.byte == byte) && ((e.byte == byte) && before_blank cs))
is_thrice byte cs = false

-- a line begins at indent 0 with `---` or `...`, and then a blank or the line's end
abbrev pub is_marker : Line → Bool
is_marker l = is_thrice 45 l.text || is_thrice 46 l.text
