-- Where the code stands in a file: the rows from an offset on, and what is known of a row. It defines nothing of trees.
use Rattle.std.specs.Prelude.{◌≡◌, ℕ, List, length, take, drop}
use Rattle.std.specs.Str.{IsCharBoundary}
use Rattle.lf_scalar.specs.Lines.{lines, first_text}
use Rattle.lf_scalar.specs.Scalars.{source_at}
use Rattle.lf_yaml.specs.Rows.{ContentRow, text_of, rows_of}
use Rattle.lf_yaml.specs.views.Shown.{shown}
use Rattle.lf_yaml.specs.declared.row.ContentLine.{ContentLine}

-- the rows of the lines from an offset on
unfoldable pub rows_after : List ℕ → ℕ → List ContentRow
rows_after bytes from = rows_of (lines (length bytes) (source_at bytes from))

-- from a row's first cell on, its text is the rest of a line of the file
abbrev pub IsPlaced : List ℕ → ContentRow → Type 0
IsPlaced bytes r = first_text (lines (length bytes) (source_at bytes r.first.at)) ≡ text_of r

-- a row of a file
pub record IsRowOf (bytes : List ℕ) (r : ContentLine) : Type 0 where
  pub placed : IsPlaced bytes (shown r)
  pub boundary : IsCharBoundary bytes r.at
  pub text : r.text.now ≡ take (length r.text.now) (drop r.at bytes)
