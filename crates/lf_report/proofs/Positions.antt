-- The line and the column of an offset.
use Rattle.std.proofs.Common.{◌≡◌, ℕ, ◌+◌, length, ap, ◌∙◌, min}
use Rattle.std.specs.List.{after_last, count_by}
use Rattle.std.proofs.lemmas.List.{take_min}
use Rattle.lf_ast.specs.Labels.{Bytes}
use Rattle.lf_base.specs.Places.{is_line_feed, line_at, column_at}
use Rattle.lf_report.specs.declared.line_index.Position.{Position}
use Rattle.lf_report.specs.views.LineIndex.{IsPosition, IsPositionOf}

-- a position at the least of an offset and the file's length has the line and the column of the offset
pub position_is : (bs : Bytes) (offset : ℕ) (position : Position) → IsPosition bs position → position.offset ≡ min offset (length bs) → IsPositionOf bs offset position
position_is bs offset position is at = record {
  line_is = is.line_is ∙ ap (λ n. line_at bs n) at ∙ ap (λ xs. 1 + count_by is_line_feed xs) (take_min offset bs);
  column_is = is.column_is ∙ ap (λ n. column_at bs n) at ∙ ap (λ xs. 1 + length (after_last is_line_feed xs)) (take_min offset bs);
}
