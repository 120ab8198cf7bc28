use Rattle.std.proofs.Common.{not, ◌||◌, map, length, ◌∙◌, ap}
use Rattle.lf_semantics.specs.ClassRows.{HasShape, holds, is_live, only_empty}
use Rattle.lf_semantics.specs.RowTable.{keeps_label, signs_label}
use Rattle.lf_flow.proofs.ClassSets.{row_length}
use Rattle.lf_flow.proofs.Sides.{others_dropped, shape_side}
use Rattle.lf_flow.proofs.matching.one_to_one.Goals as goal

pub drop_others-requires-clause-row : goal.drop_others-requires-clause-row
drop_others-requires-clause-row c =
    let u = c.args.universe.now in
    let m = c.args.matching.now in
    let shape : HasShape u c.in_ok-row.row = ap (map length) c.in_ok-row.ensures ∙ shape_side u c.args.left c.requires.left (is_live c.args.right.now) (λ l x. not (signs_label u m l) || holds c.args.right.now l x) in
    row_length u c.in_ok-row.row shape

pub returns : goal.returns
returns c =
    let u = c.args.universe.now in
    let m = c.args.matching.now in
    let shape : HasShape u c.in_ok-row.row = ap (map length) c.in_ok-row.ensures ∙ shape_side u c.args.left c.requires.left (is_live c.args.right.now) (λ l x. not (signs_label u m l) || holds c.args.right.now l x) in
    c.drop_others.ensures
    ∙ others_dropped u c.in_ok-row.row shape (keeps_label u c.args.op m) _ c.in_ok-kept.ensures
    ∙ ap (only_empty (λ label. not (keeps_label u c.args.op m label))) c.in_ok-row.ensures
