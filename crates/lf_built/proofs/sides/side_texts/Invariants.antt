use Rattle.std.proofs.Common.{◌≡◌, ◌||◌, true, not, length, map, take}
use Rattle.std.specs.Prelude.{is_some}
use Rattle.std.specs.List.{list_all}
use Rattle.lf_ast.specs.declared.expr.Matching.{Matching}
use Rattle.lf_ast.specs.declared.expr.Op.{Op}
use Rattle.lf_semantics.specs.ClassRows.{Sets}
use Rattle.lf_semantics.specs.Grouped.{signs}
use Rattle.lf_trials.specs.Candidates.{labels_in}
use Rattle.lf_trials.specs.Given.{Given}
use Rattle.lf_trials.specs.Matched.{side, signature_text}
use Rattle.lf_trials.specs.Sides.{left_gives, right_gives}
use Rattle.lf_candidates.specs.views.ClassTexts.{Stands, StandsBefore}
use Rattle.lf_built.specs.views.Marking.{side_mark}
use Rattle.lf_built.specs.views.Sides.{ArePacked, AreRows}
use Rattle.lf_built.proofs.sides.side_texts.Given as goal

abbrev pub invariant-loop-label : goal.invariant-loop-label
invariant-loop-label l = record {
  rows : (x y : Sets) → ArePacked l.universe x y l.left_row l.right_row → AreRows l.universe x y l.rows;
  left_count : length l.left ≡ length l.texts;
  right_count : length l.right ≡ length l.texts;
  signed : (x y : Sets) (op : Op) (m : Matching) (D : Given) → ArePacked l.universe x y l.left_row l.right_row → l.marks ≡ map (side_mark op m) (labels_in l.universe) → Stands l.universe l.texts D → list_all (λ name. not (signs m name) || is_some (signature_text l.universe op m x y D name)) (take l.label (labels_in l.universe)) ≡ true;
  left : (x y : Sets) (op : Op) (m : Matching) (D : Given) → ArePacked l.universe x y l.left_row l.right_row → l.marks ≡ map (side_mark op m) (labels_in l.universe) → Stands l.universe l.texts D → StandsBefore l.universe l.texts l.label l.left (side l.universe (left_gives op m) op m x y D);
  right : (x y : Sets) (op : Op) (m : Matching) (D : Given) → ArePacked l.universe x y l.left_row l.right_row → l.marks ≡ map (side_mark op m) (labels_in l.universe) → Stands l.universe l.texts D → StandsBefore l.universe l.texts l.label l.right (side l.universe (right_gives op m) op m x y D);
}
