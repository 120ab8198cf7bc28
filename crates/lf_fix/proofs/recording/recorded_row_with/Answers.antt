use Rattle.std.proofs.Common.{sym, ◌∙◌, ap, subst}
use Rattle.lf_ast.specs.Rules.{rule_tree}
use Rattle.lf_ast.specs.Selectors.{metric}
use Rattle.lf_semantics.specs.ClassRows.{HasShape, Sets}
use Rattle.lf_semantics.specs.Environments.{with_text, with_texts}
use Rattle.lf_semantics.proofs.NormalizedRows.{rule_row_is}
use Rattle.lf_fix.proofs.recording.recorded_row_with.Goals as goal

pub make_recorded-requires-clause-shape : goal.make_recorded-requires-clause-shape
make_recorded-requires-clause-shape c =
    let u = c.args.universe.now in
    let S : Sets → Type 0 = λ row. HasShape u row in
    subst S (sym c.in_ok-row.ensures) (rule_row_is u c.requires.listing c.args.env.now c.requires.env (rule_tree c.args.rule.now)).0

pub returns : goal.returns
returns c =
    let u = c.args.universe.now in
    let r = rule_tree c.args.rule.now in
    c.make_recorded.ensures ∙ ap (λ (row : Sets). with_texts u r.labels (with_text u metric r.name row)) c.in_ok-row.ensures
