use Rattle.std.proofs.Common.{sym, ◌∙◌, ap, subst, take}
use Rattle.std.proofs.lemmas.List.{take_all}
use Rattle.lf_semantics.specs.ClassRows.{HasShape, Sets, narrowed}
use Rattle.lf_ast.specs.Selectors.{selected_name}
use Rattle.lf_semantics.specs.RowTable.{passes_matchers}
use Rattle.lf_semantics.proofs.RowLaws.{shape_narrowed}
use Rattle.lf_semantics.proofs.SelectorsRepresent.{shape_seen}
use Rattle.lf_semantics.proofs.NormalizedRows.{IsNormalized}
use Rattle.lf_flow.proofs.Narrowed.{narrowed_none}
use Rattle.lf_flow.proofs.Selected.{matcher_more, normalized_seen}
use Rattle.lf_flow.proofs.selecting.select.Goals as goal

pub loop-matcher-init : goal.loop-matcher-init
loop-matcher-init c =
    let o = selected_name c.args.name.now c.args.matchers.now in
    sym (narrowed_none c.in_ok-row.row (subst IsNormalized (sym c.in_ok-row.ensures) (normalized_seen c.args.universe.now c.labels-labels.ensures.within.listing c.args.env.now c.requires.env o)))

pub narrow-requires-clause-shape : goal.narrow-requires-clause-shape
narrow-requires-clause-shape c =
    let u = c.args.universe.now in
    let o = selected_name c.args.name.now c.args.matchers.now in
    let P : Sets → Type 0 = λ row. HasShape u row in
    let seen = subst P (sym c.in_ok-row.ensures) (shape_seen u c.labels-labels.ensures.within.listing c.args.env.now c.requires.env o) in
    subst P (sym c.loop-matcher.invariant) (shape_narrowed (passes_matchers u (take c.loop-matcher.matcher-index c.args.matchers.now)) c.in_ok-row.row ∙ seen)

pub loop-matcher-preserved : goal.loop-matcher-preserved
loop-matcher-preserved c =
    c.in_ok-narrow.ensures
    ∙ matcher_more c.args.universe.now c.args.matchers.now c.loop-matcher.matcher-index c.matcher-item.result c.in_ok-row.row c.loop-matcher.row c.loop-matcher-test.true c.matcher-item.is c.loop-matcher.invariant

pub returns : goal.returns
returns c =
    let u = c.args.universe.now in
    let matchers = c.args.matchers.now in
    c.loop-matcher.invariant
    ∙ ap (λ ms. narrowed (passes_matchers u ms) c.in_ok-row.row) (take_all c.loop-matcher.matcher-index matchers c.loop-matcher-test.false)
    ∙ ap (narrowed (passes_matchers u matchers)) c.in_ok-row.ensures
