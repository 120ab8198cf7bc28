use Rattle.std.proofs.Common.{List, map, sym, ◌∙◌, ap, false}
use Rattle.lf_ast.specs.Functions.{function_named}
use Rattle.lf_ast.specs.Tree.{Tree, parts_of, tree, trees}
use Rattle.lf_ast.specs.Types.{is_scalar}
use Rattle.lf_ast.proofs.TreeOf.{tree_aggregate, tree_call}
use Rattle.lf_ast.specs.Labels.{Bytes}
use Rattle.lf_semantics.specs.Parts.{given_by}
use Rattle.lf_forks.specs.declared.holding.Held.{Held}
use Rattle.lf_forks.specs.views.Holding.{called, holds}
use Rattle.lf_forks.specs.views.NameMarks.{NameMarks}
use Rattle.lf_forks.proofs.HeldParts.{of_aggregation, of_call, of_operator}
use Rattle.lf_forks.proofs.holding.told_of.Goals as goal

pub returns-in-Binary : goal.returns-in-Binary
returns-in-Binary c =
    let marks : NameMarks = c.args.marks.now in
    let l : Tree = tree c.in-Binary.left.value in
    let r : Tree = tree c.in-Binary.right.value in
    let parts = c.requires ∙ ap (λ e. map (holds marks) (parts_of (tree e))) c.in-Binary.is in
    c.beside.ensures (holds marks l) (holds marks r) parts ∙ of_operator marks c.in-Binary.op c.in-Binary.modifier l r c.in-Binary.span ∙ ap (λ e. holds marks (tree e)) (sym c.in-Binary.is)

pub returns-in-Call : goal.returns-in-Call
returns-in-Call c =
    let marks : NameMarks = c.args.marks.now in
    let is = tree_call c.args.expr.now c.in-Call.name c.in-Call.args c.in-Call.span c.in-Call.is in
    let parts = c.requires ∙ ap (λ (t : Tree). map (holds marks) (parts_of t)) is in
    let scalar = c.gives_scalar.ensures ∙ ap (λ (n : Bytes). is_scalar (given_by (function_named n))) c.as_str.ensures in
    c.called.ensures ∙ ap (λ b. called b c.args.parts.items) scalar ∙ ap (λ (ps : List Held). called (is_scalar (given_by (function_named c.in-Call.name))) ps) parts
    ∙ of_call marks c.in-Call.name (trees c.in-Call.args) c.in-Call.span ∙ ap (holds marks) (sym is)

pub returns-in-Aggregate : goal.returns-in-Aggregate
returns-in-Aggregate c =
    let marks : NameMarks = c.args.marks.now in
    let is = tree_aggregate c.args.expr.now c.in-Aggregate.op c.in-Aggregate.grouping c.in-Aggregate.args c.in-Aggregate.span c.in-Aggregate.is in
    let parts = c.requires ∙ ap (λ (t : Tree). map (holds marks) (parts_of t)) is in
    c.called-in-Aggregate.ensures ∙ ap (λ (ps : List Held). called false ps) parts ∙ of_aggregation marks c.in-Aggregate.op c.in-Aggregate.grouping (trees c.in-Aggregate.args) c.in-Aggregate.span ∙ ap (holds marks) (sym is)
