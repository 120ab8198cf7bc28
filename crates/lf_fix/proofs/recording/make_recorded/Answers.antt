use Rattle.std.proofs.Common.{List, sym, ◌∙◌, ap, subst}
use Rattle.lf_ast.specs.Labels.{Bytes}
use Rattle.lf_ast.specs.Rules.{rule_tree}
use Rattle.lf_ast.specs.declared.rule.RuleLabel.{RuleLabel}
use Rattle.lf_semantics.specs.ClassRows.{HasShape, Sets}
use Rattle.lf_semantics.specs.Environments.{with_text, with_texts}
use Rattle.lf_ast.specs.Selectors.{metric}
use Rattle.lf_semantics.proofs.SamplesRepresented.{shape_with_text}
use Rattle.lf_fix.proofs.recording.make_recorded.Goals as goal

pub set_labels-requires-clause-shape : goal.set_labels-requires-clause-shape
set_labels-requires-clause-shape c =
    let u = c.args.universe.now in
    let S : Sets → Type 0 = λ row. HasShape u row in
    subst S (sym c.set_text.ensures) (shape_with_text u c.requires.listing metric c.as_str.result.now c.args.row.now c.requires.shape)

pub returns : goal.returns
returns c =
    let u = c.args.universe.now in
    let r = rule_tree c.args.rule.now in
    c.set_labels.ensures
    ∙ ap (λ (labels : List RuleLabel). with_texts u labels c.set_text.new.row) c.as_slice.ensures
    ∙ ap (λ (row : Sets). with_texts u r.labels row) (c.set_text.ensures ∙ ap (λ (text : Bytes). with_text u metric text c.args.row.now) c.as_str.ensures)
