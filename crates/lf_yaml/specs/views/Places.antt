-- Where the code reads on in a flow collection. It defines nothing of trees.
use Rattle.std.specs.Prelude.{◌≡◌, ℕ, ◌+◌, List, length, take, drop}
use Rattle.std.specs.Str.{IsCharBoundary, IsUtf8}
use Rattle.lf_scalar.specs.Cells.{cell, cells}
use Rattle.lf_scalar.specs.Scalars.{value as scalar_value}
use Rattle.lf_scalar.specs.declared.scalar.Scalar.{Scalar}
use Rattle.lf_yaml.specs.Flow.{line_on, lines_below}
use Rattle.lf_yaml.specs.Rows.{rows_of}
use Rattle.lf_yaml.specs.reading.Trees.{Signed}
use Rattle.lf_yaml.specs.views.Cursor.{rows_after}
use Rattle.lf_yaml.specs.declared.row.ContentLine.{ContentLine}
use Rattle.lf_yaml.specs.declared.place.FlowCursor.{FlowCursor}

-- the rest of a line of a file from an offset on, with the lines behind it
pub record IsIn (bytes : List ℕ) (at : ℕ) (text : List ℕ) (next : ℕ) : Type 0 where
  pub text_is : text ≡ take (length text) (drop at bytes)
  pub utf8 : IsUtf8 text
  pub start : IsCharBoundary bytes next
  pub rest : cells at text ≡ (line_on bytes at).text
  pub below : rows_after bytes next ≡ rows_of (lines_below bytes at)

abbrev pub IsPlaceIn : List ℕ → FlowCursor → Type 0
IsPlaceIn bytes p = IsIn bytes p.at p.text.now p.next

abbrev pub IsPartIn : List ℕ → ContentLine → ℕ → Type 0
IsPartIn bytes part next = IsIn bytes part.at part.text.now next

-- a key that a part begins, and its `:`, which stands at a place of the part
abbrev pub signed : ContentLine → Scalar × ℕ → Signed
signed part x = (scalar_value x.0, cell 58 (part.at + x.1))
