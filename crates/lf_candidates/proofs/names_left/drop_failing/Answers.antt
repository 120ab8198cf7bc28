use Rattle.std.proofs.Common.{◌≡◌, true, length, map, subst, sym, ◌∙◌, ap, arith}
use Rattle.lf_semantics.specs.ClassRows.{Sets, holds}
use Rattle.lf_semantics.proofs.RowLaws.{shape_narrowed}
use Rattle.lf_classes.specs.views.PatternCache.{passing_row}
use Rattle.lf_candidates.proofs.FirstClass.{row_length}
use Rattle.lf_candidates.proofs.Labelled.{some_label}
use Rattle.lf_candidates.proofs.NamesLeft.{met_stays}
use Rattle.lf_candidates.proofs.PassingTexts.{cached_shape}
use Rattle.lf_candidates.proofs.names_left.drop_failing.Goals as goal

pub meet_label-requires-clause-label : goal.meet_label-requires-clause-label
meet_label-requires-clause-label c = omega (arith, row_length c.args.universe.now c.args.row.now c.requires.shape, some_label c.args.universe.now c.requires.universe)

pub meet_label-requires-clause-shape : goal.meet_label-requires-clause-shape
meet_label-requires-clause-shape c =
    let u = c.args.universe.now in
    c.requires.shape ∙ sym (cached_shape u 0 c.args.matcher.now.op c.as_str.result.now (some_label u c.requires.universe) c.in-Some.passing.now c.in-Some.ensures)

pub returns-in-Some-clause-shape : goal.returns-in-Some-clause-shape
returns-in-Some-clause-shape c = ap (map length) c.meet_label.ensures ∙ shape_narrowed _ c.args.row.now ∙ c.requires.shape

pub returns-in-Some-clause-passing : goal.returns-in-Some-clause-passing
returns-in-Some-clause-passing c = λ class own passing held.
    let u = c.args.universe.now in
    let m = c.args.matcher.now in
    let cached : Sets = c.in-Some.passing.now in
    let is : cached ≡ passing_row u 0 m.op m.value = c.in-Some.ensures ∙ ap (passing_row u 0 m.op) c.as_str.ensures in
    subst (λ (row : Sets). holds row 0 class ≡ true) (sym c.meet_label.ensures) (met_stays u c.requires.universe m.op m.value c.args.row.now cached is c.is_empty-settled.ensures.settled class own passing held)
