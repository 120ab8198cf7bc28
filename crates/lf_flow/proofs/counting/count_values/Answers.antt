use Rattle.std.proofs.Common.{ℕ, Bool, true, ◌||◌, eqb, not, map, length, ◌∙◌, ap, arith}
use Rattle.lf_semantics.specs.ClassRows.{HasShape, kept, replaced}
use Rattle.lf_semantics.specs.Grouped.{may_be_lacked}
use Rattle.lf_semantics.specs.Listing.{label_of}
use Rattle.lf_ast.specs.Arguments.{text_at, texts_of}
use Rattle.lf_ast.specs.Tree.{trees}
use Rattle.lf_semantics.specs.RowTable.{is_label}
use Rattle.lf_semantics.proofs.RowLaws.{shape_replaced}
use Rattle.lf_flow.proofs.ClassSets.{row_length, set_length, shape_grouped}
use Rattle.lf_flow.proofs.Counted.{counted}
use Rattle.lf_flow.proofs.counting.count_values.Goals as goal

pub fill_label-requires : goal.fill_label-requires
fill_label-requires c =
    let u = c.args.universe.now in
    let shape : HasShape u c.group.new.row = ap (λ r. map length r) c.in_ok-group.ensures ∙ shape_grouped u c.args.grouping.now c.args.row.now ∙ c.requires.shape in
    omega (arith, row_length u c.group.new.row shape, c.label_of-label.ensures.within)

pub keep-requires-clause-label : goal.keep-requires-clause-label
keep-requires-clause-label c =
    let u = c.args.universe.now in
    let label = c.label_of-label.result in
    let shape : HasShape u c.group.new.row = ap (λ r. map length r) c.in_ok-group.ensures ∙ shape_grouped u c.args.grouping.now c.args.row.now ∙ c.requires.shape in
    let filled : HasShape u c.fill_label.new.self = ap (λ r. map length r) c.fill_label.ensures ∙ shape_replaced (λ l. eqb label l) (λ l class. true) c.group.new.row ∙ shape in
    omega (arith, row_length u c.fill_label.new.self filled, c.label_of-label.ensures.within)

pub keep-requires-clause-class : goal.keep-requires-clause-class
keep-requires-clause-class c =
    let u = c.args.universe.now in
    let label = c.label_of-label.result in
    let shape : HasShape u c.group.new.row = ap (λ r. map length r) c.in_ok-group.ensures ∙ shape_grouped u c.args.grouping.now c.args.row.now ∙ c.requires.shape in
    let filled : HasShape u c.fill_label.new.self = ap (λ r. map length r) c.fill_label.ensures ∙ shape_replaced (λ l. eqb label l) (λ l class. true) c.group.new.row ∙ shape in
    omega (arith, set_length u c.fill_label.new.self filled label c.label_of-label.ensures.within)

pub returns : goal.returns
returns c =
    let u = c.args.universe.now in
    let x = text_at (texts_of (trees c.args.args.now)) 0 in
    let label = c.label_of-label.result in
    let row = c.group.new.row in
    let test : Bool → ℕ → ℕ → Bool = λ lacked l class. not (eqb class 0) || lacked in
    c.keep.ensures
    ∙ ap (kept label 0 c.may_be_lacked.result) c.fill_label.ensures
    ∙ counted label c.may_be_lacked.result row
    ∙ ap (λ k. replaced (λ l. eqb k l) (test c.may_be_lacked.result) row) (c.label_of-label.ensures.number ∙ ap (label_of u) c.text_at-name.ensures)
    ∙ ap (λ (b : Bool). replaced (is_label u x) (test b) row) (c.may_be_lacked.ensures ∙ ap (may_be_lacked c.args.grouping.now) c.text_at-name.ensures)
    ∙ ap (replaced (is_label u x) (test (may_be_lacked c.args.grouping.now x))) c.in_ok-group.ensures
