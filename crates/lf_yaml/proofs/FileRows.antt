-- Rows of a file, as the code finds them.
use Rattle.std.proofs.Common.{◌≡◌, ℕ, ◌+◌, ◌<◌, List, [], ◌∷◌, length, take, drop, get_or, Option, Some, None, sym}
use Rattle.std.specs.Prelude.{MatchOption, IfSome, option_map}
use Rattle.std.specs.Str.{IsCharBoundary, IsUtf8}
use Rattle.lf_scalar.specs.Cells.{cells}
use Rattle.lf_yaml.specs.Rows.{left_of}
use Rattle.lf_yaml.specs.views.Shown.{shown}
use Rattle.lf_yaml.specs.views.Cursor.{rows_after, IsRowOf}
use Rattle.lf_yaml.specs.declared.row.ContentLine.{ContentLine}
use Rattle.lf_yaml.proofs.HeadCode.{left-row}
use Rattle.lf_yaml.proofs.RowsAfter.{placed-first}

pub row-of-file : (bytes : List ℕ) (from : ℕ) (o : Option (ContentLine × ℕ)) → MatchOption o (rows_after bytes from ≡ []) (λ x. rows_after bytes from ≡ shown x.0 ∷ rows_after bytes x.1) → IfSome o (λ x. IsCharBoundary bytes x.0.at)
    → IfSome o (λ x. x.0.text.now ≡ take (length x.0.text.now) (drop x.0.at bytes)) → IfSome o (λ x. IsRowOf bytes x.0)
row-of-file bytes from None rows boundary text = tt
row-of-file bytes from (Some x) rows boundary text = record { placed = placed-first bytes from (shown x.0) (rows_after bytes x.1) rows; boundary = boundary; text = text }

pub left-of-file : (bytes : List ℕ) (r : ContentLine) (sign : ℕ) (o : Option ContentLine) → IsUtf8 bytes → IsRowOf bytes r → 0 < length r.text.now → sign < length r.text.now → get_or r.text.now sign 0 < 128
    → option_map shown o ≡ left_of r.begin (cells (r.at + (sign + 1)) (drop (sign + 1) r.text.now)) → IfSome o (λ left. IsRowOf bytes left)
left-of-file bytes r sign None utf8 h full lt ascii e = tt
left-of-file bytes r sign (Some left) utf8 h full lt ascii e = left-row bytes r left sign utf8 h full left.full lt ascii (sym e)
