use Rattle.std.proofs.Common.{◌||◌, eqb, not, ◌∙◌, ap}
use Rattle.lf_semantics.specs.ClassRows.{narrowed}
use Rattle.lf_semantics.specs.Listing.{label_of}
use Rattle.lf_semantics.specs.RowTable.{passes_class}
use Rattle.lf_flow.proofs.PassingRows.{met_passing, shape_passing}
use Rattle.lf_flow.proofs.narrowing.narrow.Goals as goal

pub meet_label-requires-clause-shape : goal.meet_label-requires-clause-shape
meet_label-requires-clause-shape c =
    shape_passing c.args.universe.now c.label_of-label.result c.args.matcher.now.op c.as_str-2.result.now c.in-Some.passing.now c.args.row.now c.requires.shape c.in-Some.ensures

pub returns-in-Some : goal.returns-in-Some
returns-in-Some c =
    let u = c.args.universe.now in
    let m = c.args.matcher.now in
    let row = c.args.row.now in
    let label = c.label_of-label.result in
    let passing = c.in-Some.passing.now in
    c.meet_label.ensures
    ∙ met_passing u label m.op c.as_str-2.result.now passing row c.label_of-label.ensures.within c.requires.shape c.in-Some.ensures
    ∙ ap (λ pattern. narrowed (λ l class. not (eqb label l) || passes_class u m.op pattern l class) row) c.as_str-2.ensures
    ∙ ap (λ k. narrowed (λ l class. not (eqb k l) || passes_class u m.op m.value l class) row) (c.label_of-label.ensures.number ∙ ap (label_of u) c.as_str.ensures)
