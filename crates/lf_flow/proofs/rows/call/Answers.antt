use Rattle.std.proofs.Common.{◌≤◌, List, Option, Some, length, sym, ◌∙◌, ap, subst}
use Rattle.std.specs.Prelude.{◌≡◌, IfOk}
use Rattle.std.specs.Option.{option_map}
use Rattle.lf_ast.specs.Functions.{signature_of}
use Rattle.lf_ast.specs.Tree.{trees}
use Rattle.lf_semantics.specs.ClassRows.{Sets}
use Rattle.lf_semantics.specs.RowTable.{call_row}
use Rattle.lf_flow.specs.declared.typed_row.TypedRow.{TypedRow}
use Rattle.lf_flow.specs.views.Kept.{operand_row}
use Rattle.lf_flow.proofs.KeptRows.{one_of_call, row_of_call, shape_of_call}
use Rattle.lf_flow.proofs.rows.call.Goals as goal

pub at_most_one-operand-requires : goal.at_most_one-operand-requires
at_most_one-operand-requires c =
    let P : List TypedRow → Type 0 = λ parts. length parts ≤ 1 in
    subst P (sym c.requires.parts.2) (one_of_call c.args.universe.now c.requires.parts.0 (option_map signature_of c.args.function) (trees c.args.args.now))

pub called-requires-clause-shape : goal.called-requires-clause-shape
called-requires-clause-shape c =
    let h = c.requires.parts in
    shape_of_call c.args.universe.now h.0 c.requires.listing h.1 (option_map signature_of c.args.function) (trees c.args.args.now) c.at_most_one-operand.result (sym h.2 ∙ c.at_most_one-operand.ensures)

pub returns-clause-row : goal.returns-clause-row
returns-clause-row c = λ env own.
    let u = c.args.universe.now in
    let o = option_map signature_of c.args.function in
    let grouping = c.args.grouping.now in
    let args = c.args.args.now in
    let operand = c.at_most_one-operand.result in
    let P : Option Sets → Type 0 = λ x. IfOk c.called.result (λ typed. typed.row ≡ x) in
    subst P
    (ap (λ args. Some (call_row u o grouping (trees args) (λ place. operand_row u operand))) c.as_slice.ensures
    ∙ ap (λ (x : Sets). Some x) (row_of_call u env o grouping (trees args) operand (sym own ∙ c.at_most_one-operand.ensures)))
    c.called.ensures.row
