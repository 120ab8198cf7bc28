-- Offsets of a file with their lines and columns, as the code looks places up.
use Rattle.std.specs.Prelude.{◌≡◌, ◌≤◌, ℕ, List, length, Some, slice_get}
use Rattle.std.specs.List.{AllZip}
use Rattle.lf_ast.specs.Labels.{Bytes}
use Rattle.lf_base.specs.Places.{line_at, column_at}
use Rattle.lf_report.specs.declared.report.FileReport.{FileReport}
use Rattle.lf_report.specs.declared.line_index.LineIndex.{LineIndex}
use Rattle.lf_report.specs.declared.line_index.Position.{Position}

-- the position is one of the file
pub record IsPosition (bytes : Bytes) (position : Position) : Type 0 where
  pub within : position.offset ≤ length bytes
  pub line_is : position.line ≡ line_at bytes position.offset
  pub column_is : position.column ≡ column_at bytes position.offset

-- the position has the line and the column of this offset
pub record IsPositionOf (bytes : Bytes) (offset : ℕ) (position : Position) : Type 0 where
  pub line_is : position.line ≡ line_at bytes offset
  pub column_is : position.column ≡ column_at bytes offset

-- all are positions of the file
abbrev pub ArePositions : Bytes → List Position → Type 0
ArePositions bytes positions = (k : ℕ) (position : Position) → slice_get positions k ≡ Some position → IsPosition bytes position

-- each file has a line index of its own
abbrev pub AreIndexed : List FileReport → List LineIndex → Type 0
AreIndexed files indexes = AllZip (λ (file : FileReport) (m : LineIndex). ArePositions file.source m.positions.items) files indexes
