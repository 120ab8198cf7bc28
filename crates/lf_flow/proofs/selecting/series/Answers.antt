use Rattle.std.proofs.Common.{[], cond, eqb, length, get_or, ◌∙◌, ap, arith}
use Rattle.lf_semantics.specs.ClassRows.{top, bottom, replaced, set_to}
use Rattle.lf_semantics.specs.Listing.{class_of}
use Rattle.lf_semantics.specs.RowTable.{is_metric_label}
use Rattle.lf_semantics.proofs.RowLaws.{shape_top}
use Rattle.lf_flow.proofs.ClassSets.{set_length}
use Rattle.lf_flow.proofs.Selected.{series_is}
use Rattle.lf_flow.proofs.selecting.series.Goals as goal

pub set_class-requires-clause-class : goal.set_class-requires-clause-class
set_class-requires-clause-class c =
    let u = c.args.universe.now in
    let label = c.label_of-label.result in
    omega (arith, c.class_of-class.ensures.within, ap (λ row. length (get_or row label [])) c.in_ok-row.ensures, set_length u (top u) (shape_top u) label c.label_of-label.ensures.within)

pub returns : goal.returns
returns c =
    let u = c.args.universe.now in
    let name = c.args.name.now in
    let label = c.label_of-label.result in
    c.set_class.ensures
    ∙ ap (set_to label c.class_of-class.result) c.in_ok-row.ensures
    ∙ series_is u name label c.class_of-class.result c.label_of-label.ensures.number c.class_of-class.ensures.number
    ∙ ap (λ b. cond b (bottom u) (replaced (is_metric_label u) (λ l k. eqb k (class_of u l name)) (top u))) c.if-eq.ensures
