use Rattle.std.proofs.Common.{◌≡◌, sym, ◌∙◌, ap, subst}
use Rattle.lf_ast.specs.Labels.{Bytes}
use Rattle.lf_ast.specs.Rules.{rule_tree}
use Rattle.lf_ast.specs.Selectors.{metric}
use Rattle.lf_semantics.specs.ClassRows.{HasShape, Sets}
use Rattle.lf_semantics.specs.Environments.{IsRow, recorded_row, with_text, with_texts}
use Rattle.lf_semantics.proofs.NormalizedRows.{recorded_row_is, rule_row_is}
use Rattle.lf_built.specs.views.RuleRows.{IsStored}
use Rattle.lf_built.proofs.row_making.stored_row.Goals as goal

pub make_recorded-requires-clause-shape : goal.make_recorded-requires-clause-shape
make_recorded-requires-clause-shape c =
    let u = c.args.universe.now in
    subst (λ (row : Sets). HasShape u row) (sym c.requires.row) (rule_row_is u c.requires.listing c.args.env.now c.requires.env (rule_tree c.args.rule.now)).0

pub unless_in-requires : goal.unless_in-requires
unless_in-requires c =
    let u = c.args.universe.now in
    let e = c.args.env.now in
    let r = rule_tree c.args.rule.now in
    let made : c.make_recorded.new.row ≡ recorded_row u e r = c.make_recorded.ensures ∙ ap (λ (row : Sets). with_texts u r.labels (with_text u metric r.name row)) c.requires.row in
    record { rows = (u, c.requires.env, subst (λ (row : Sets). IsRow u row) (sym made) (recorded_row_is u c.requires.listing e c.requires.env r)) }

pub returns : goal.returns
returns c records =
    let u = c.args.universe.now in
    let e = c.args.env.now in
    let r = rule_tree c.args.rule.now in
    let made : c.make_recorded.new.row ≡ recorded_row u e r = c.make_recorded.ensures ∙ ap (λ (row : Sets). with_texts u r.labels (with_text u metric r.name row)) c.requires.row in
    subst (λ (name : Bytes). IsStored e name (recorded_row u e r) c.unless_in.result) c.as_str.ensures (subst (λ (row : Sets). IsStored e c.as_str.result.now row c.unless_in.result) made c.unless_in.ensures)
