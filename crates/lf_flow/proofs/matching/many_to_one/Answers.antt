use Rattle.std.proofs.Common.{◌≡◌, false, not, ◌||◌, cond, map, length, get_or, ◌∙◌, ap}
use Rattle.lf_semantics.specs.ClassRows.{HasShape, Sets, holds, is_live, narrowed, bottom}
use Rattle.lf_semantics.specs.Grouped.{is_arithmetic}
use Rattle.lf_semantics.specs.RowTable.{matched_row, nameless_if, signs_label, taken_row}
use Rattle.lf_flow.proofs.Sides.{shape_nameless_if, shape_side, shape_taken, side_met}
use Rattle.lf_flow.proofs.matching.many_to_one.Goals as goal

pub drop_name_if-requires : goal.drop_name_if-requires
drop_name_if-requires c =
    ap (map length) c.match_side.ensures
    ∙ shape_side c.args.universe.now c.args.many c.requires.many (is_live c.args.one) (λ l x. not (get_or c.in_ok-signature.signature l false) || holds c.args.one l x)

pub take_labels-requires-clause-row : goal.take_labels-requires-clause-row
take_labels-requires-clause-row c =
    let u = c.args.universe.now in
    let many : HasShape u c.match_side.new.row =
    ap (map length) c.match_side.ensures ∙ shape_side u c.args.many c.requires.many (is_live c.args.one) (λ l x. not (get_or c.in_ok-signature.signature l false) || holds c.args.one l x) in
    ap (map length) c.drop_name_if.ensures ∙ shape_nameless_if u c.match_side.new.row many c.is_arithmetic.result

pub take_labels-requires-clause-one : goal.take_labels-requires-clause-one
take_labels-requires-clause-one c =
    ap (map length) c.match_side-2.ensures
    ∙ shape_side c.args.universe.now c.args.one c.requires.one (is_live c.in_ok-before.before) (λ l x. not (get_or c.in_ok-signature.signature l false) || holds c.in_ok-before.before l x)

pub drop_name_if-requires-2 : goal.drop_name_if-requires-2
drop_name_if-requires-2 c =
    let u = c.args.universe.now in
    let many : HasShape u c.match_side.new.row =
    ap (map length) c.match_side.ensures ∙ shape_side u c.args.many c.requires.many (is_live c.args.one) (λ l x. not (get_or c.in_ok-signature.signature l false) || holds c.args.one l x) in
    let named : HasShape u c.drop_name_if.new.row = ap (map length) c.drop_name_if.ensures ∙ shape_nameless_if u c.match_side.new.row many c.is_arithmetic.result in
    ap (map length) c.in_ok-take_labels.ensures ∙ shape_taken u c.drop_name_if.new.row named c.match_side-2.new.row c.args.matching.now.include

pub returns : goal.returns
returns c =
    let u = c.args.universe.now in
    let m = c.args.matching.now in
    let set = c.in_ok-signature.signature in
    let side : Sets → Sets → Sets = λ row other. cond (is_live other) (narrowed (λ l x. not (get_or set l false) || holds other l x) row) (bottom u) in
    let many : c.match_side.new.row ≡ matched_row u m c.args.many c.args.one =
    c.match_side.ensures ∙ side_met u c.args.many c.requires.many (signs_label u m) set c.in_ok-signature.ensures c.args.one in
    let one : c.match_side-2.new.row ≡ matched_row u m c.args.one c.args.many =
    c.match_side-2.ensures ∙ ap (side c.args.one) c.in_ok-before.ensures ∙ side_met u c.args.one c.requires.one (signs_label u m) set c.in_ok-signature.ensures c.args.many in
    let named : c.drop_name_if.new.row ≡ nameless_if u (is_arithmetic c.args.op) (matched_row u m c.args.many c.args.one) =
    c.drop_name_if.ensures ∙ ap (λ drops. nameless_if u drops c.match_side.new.row) c.is_arithmetic.ensures ∙ ap (nameless_if u (is_arithmetic c.args.op)) many in
    c.drop_name_if-2.ensures
    ∙ ap (nameless_if u m.bool_mod) (c.in_ok-take_labels.ensures ∙ ap (λ row. taken_row u row m.include c.drop_name_if.new.row) one ∙ ap (taken_row u (matched_row u m c.args.one c.args.many) m.include) named)
