use Rattle.std.proofs.Common.{◌≡◌, ◌+◌, List, true, subst, sym, ◌∙◌, ap, take}
use Rattle.std.proofs.lemmas.List.{take_all}
use Rattle.lf_ast.specs.declared.expr.Matcher.{Matcher}
use Rattle.lf_semantics.specs.ClassRows.{HasShape, Sets}
use Rattle.lf_semantics.specs.Grouped.{is_metric}
use Rattle.lf_semantics.proofs.RowLaws.{shape_top}
use Rattle.lf_candidates.specs.views.ClassTexts.{HasPassing}
use Rattle.lf_candidates.proofs.NamesLeft.{all_names, fewer_names, same_names}
use Rattle.lf_candidates.proofs.names_left.names_left.Goals as goal
use Rattle.lf_candidates.proofs.names_left.names_left.Goals.{then-is_metric, else-is_metric}

pub loop-matcher-init : goal.loop-matcher-init
loop-matcher-init c =
    let u = c.args.universe.now in
    let none : List Matcher = take 0 c.args.matchers.now in
    subst (λ (row : Sets). HasShape u row × HasPassing u none row) (sym c.in_ok-row.ensures) (shape_top u, all_names u c.requires none)

pub loop-matcher-preserved : goal.loop-matcher-preserved
loop-matcher-preserved c =
    let u = c.args.universe.now in
    let ms = c.args.matchers.now in
    let k = c.loop-matcher.matcher-index in
    let m : Matcher = c.matcher-item.result in
    let P : Sets → Type 0 = λ row. HasShape u row × HasPassing u (take (k + 1) ms) row in
    elim c.if-is_metric.branch [
      | then-is_metric w ↦
          let metric : is_metric m.label ≡ true = ap is_metric (sym c.as_str.ensures) ∙ sym c.is_metric.ensures ∙ w.if-is_metric.true in
          let fewer = fewer_names u ms k m c.loop-matcher-test.true c.matcher-item.is c.loop-matcher.row w.drop_failing.new.row metric c.loop-matcher.invariant.1 w.drop_failing.ensures.passing in
          subst P (sym w.row-is) (w.drop_failing.ensures.shape, fewer)
      | else-is_metric w ↦
          let same = same_names u ms k m c.loop-matcher-test.true c.matcher-item.is c.loop-matcher.row c.loop-matcher.invariant.1 in
          subst P (sym w.row-is) (c.loop-matcher.invariant.0, same)
    ]

pub returns-clause-passing : goal.returns-clause-passing
returns-clause-passing c =
    subst (λ (ms : List Matcher). HasPassing c.args.universe.now ms c.loop-matcher.row) (take_all c.loop-matcher.matcher-index c.args.matchers.now c.loop-matcher-test.false) c.loop-matcher.invariant.1
