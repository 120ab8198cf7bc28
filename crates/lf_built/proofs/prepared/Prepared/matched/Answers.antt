use Rattle.std.proofs.Common.{◌≡◌, List, map, Option, Some, ◌∙◌, ap, subst}
use Rattle.lf_ast.specs.Tree.{Tree}
use Rattle.lf_ast.specs.declared.expr.Matching.{Matching}
use Rattle.lf_ast.specs.declared.expr.Op.{Op}
use Rattle.lf_semantics.specs.ClassRows.{Sets}
use Rattle.lf_semantics.specs.RowTable.{row_of}
use Rattle.lf_trials.specs.Candidates.{labels_in}
use Rattle.lf_candidates.specs.views.Packed.{PackedRow, packed}
use Rattle.lf_built.specs.declared.marking.NodeMarks.{NodeMarks}
use Rattle.lf_built.specs.declared.marking.SideMark.{SideMark}
use Rattle.lf_built.specs.declared.prepared.Prepared.{Prepared}
use Rattle.lf_built.specs.views.Indexed.{IsPrepared, env_of, universe_of}
use Rattle.lf_built.specs.views.Marking.{operator_marks, operator_of, side_mark, sides_at}
use Rattle.lf_built.specs.declared.sides.Sides.{Sides}
use Rattle.lf_built.specs.declared.spots.Spot.{Spot}
use Rattle.lf_built.specs.views.Sides.{ArePacked}
use Rattle.lf_built.specs.views.Spots.{tree_at}
use Rattle.lf_built.proofs.StandingParts.{is_row}
use Rattle.lf_built.proofs.PartSpots.{AreOf, both_sides, no_sides}
use Rattle.lf_built.proofs.prepared.Prepared.matched.Goals as goal

-- the marks are those of the operator
marks_are : (p : Prepared) (e : Tree) (op : Op) (m : Matching) (marks : List SideMark) → operator_of e ≡ Some (op, m) → marks ≡ sides_at (labels_in (universe_of p)) e → marks ≡ map (side_mark op m) (labels_in (universe_of p))
marks_are p e op m marks own is = is ∙ ap (operator_marks (labels_in (universe_of p))) own

pub side_texts-requires-clause-marks : goal.side_texts-requires-clause-marks
side_texts-requires-clause-marks c =
    let own = c.requires.own in
    (own.0, own.1, marks_are c.args.self.now (tree_at c.args.spot.now) own.0 own.1 c.marks.result.now.sides own.2 (ap (λ (x : NodeMarks). x.sides) c.marks.ensures))

-- the rows of the sides
abbrev row_at : Prepared → Spot → Sets
row_at p spot = row_of (universe_of p) (env_of p) (tree_at spot)

packed_at : (p : Prepared) → IsPrepared p → (left right : Spot) (l r : PackedRow) → l ≡ packed (universe_of p) (row_at p left) → r ≡ packed (universe_of p) (row_at p right) → ArePacked (universe_of p) (row_at p left) (row_at p right) l r
packed_at p known left right l r is_left is_right = (is_row p known (tree_at left), is_row p known (tree_at right), is_left, is_right)

pub side_texts-requires-clause-rows : goal.side_texts-requires-clause-rows
side_texts-requires-clause-rows c =
    let p = c.args.self.now in
    (row_at p c.args.left, row_at p c.args.right, packed_at p c.requires.known c.args.left c.args.right c.packed_row-left_row.result.now c.packed_row-right_row.result.now c.packed_row-left_row.ensures c.packed_row-right_row.ensures)

pub returns-in-Some : goal.returns-in-Some
returns-in-Some c op m D own stands =
    let p = c.args.self.now in
    let e = tree_at c.args.spot.now in
    let left = c.args.left in
    let right = c.args.right in
    let rows = packed_at p c.requires.known left right c.packed_row-left_row.result.now c.packed_row-right_row.result.now c.packed_row-left_row.ensures c.packed_row-right_row.ensures in
    let marks = marks_are p e op m c.marks.result.now.sides own (ap (λ (x : NodeMarks). x.sides) c.marks.ensures) in
    let are = subst (λ (o : Option Sides). AreOf p e op m left right D o) c.in-Some.is (c.in_ok-sides.ensures (row_at p left) (row_at p right) op m D rows marks stands) in
    both_sides p e op m left right D c.in-Some.sides c.requires.left c.requires.right c.requires.sides are

pub returns : goal.returns
returns c op m D own stands =
    let p = c.args.self.now in
    let e = tree_at c.args.spot.now in
    let left = c.args.left in
    let right = c.args.right in
    let rows = packed_at p c.requires.known left right c.packed_row-left_row.result.now c.packed_row-right_row.result.now c.packed_row-left_row.ensures c.packed_row-right_row.ensures in
    let marks = marks_are p e op m c.marks.result.now.sides own (ap (λ (x : NodeMarks). x.sides) c.marks.ensures) in
    let are = subst (λ (o : Option Sides). AreOf p e op m left right D o) c.in-None.is (c.in_ok-sides.ensures (row_at p left) (row_at p right) op m D rows marks stands) in
    no_sides p e op m left right D are
