use Rattle.std.proofs.Common.{◌≡◌, List, map, ap, ◌∙◌, subst}
use Rattle.std.specs.Prelude.{IfOk}
use Rattle.lf_ast.specs.Tree.{tree, nodes}
use Rattle.lf_semantics.specs.ClassRows.{Sets}
use Rattle.lf_flow.specs.declared.typed_row.TypedRow.{TypedRow}
use Rattle.lf_flow.specs.views.Kept.{made_row}
use Rattle.lf_flow.proofs.PartRows.{rows_are}
use Rattle.lf_flow.proofs.parts.part_rows_with.Goals as goal

pub returns : goal.returns
returns c =
    let u = c.args.universe.now in
    let P : List Sets → Type 0 = λ l. IfOk c.into_rows.result (λ rows. rows.items ≡ l) in
    subst P (ap (λ (parts : List TypedRow). map (λ (typed : TypedRow). made_row u typed.row) parts) c.in_ok-parts.ensures ∙ rows_are u c.args.env.now (nodes (tree c.args.expr.now))) c.into_rows.ensures
