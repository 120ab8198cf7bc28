use Rattle.std.proofs.Common.{◌≡◌, ◌∷◌, [], Option, Some, map, sym, ◌∙◌, ap, subst}
use Rattle.std.specs.Prelude.{IfOk}
use Rattle.std.specs.Option.{option_map}
use Rattle.lf_ast.specs.Functions.{Signature, aggregation, called_by, function_named, signature_of}
use Rattle.lf_ast.specs.Tree.{Tree, parts_of, tree, trees}
use Rattle.lf_ast.specs.Types.{is_scalar}
use Rattle.lf_ast.specs.declared.expr.Expr.{Expr}
use Rattle.lf_ast.specs.declared.expr.Grouping.TheVariants.{None as Ungrouped}
use Rattle.lf_ast.specs.views.Walks.{chosen}
use Rattle.lf_ast.proofs.TreeOf.{tree_aggregate, tree_call}
use Rattle.lf_semantics.specs.ClassRows.{Sets}
use Rattle.lf_semantics.specs.Parts.{is_scalar_part}
use Rattle.lf_semantics.specs.RowTable.{binary_row, call_row, row_at, row_of, selector_row}
use Rattle.lf_nodes.proofs.Parts.{first_of_two, second_of_two, the_one}
use Rattle.lf_flow.specs.declared.typed_row.TypedRow.{TypedRow}
use Rattle.lf_flow.specs.views.Kept.{kept_row, made_row, typed_operand, typed_row_of}
use Rattle.lf_nodes.specs.views.Needed.{parts_needed}
use Rattle.lf_flow.proofs.KeptRows.{made_is, made_shape}
use Rattle.lf_flow.proofs.rows.typed_row.Goals as goal

-- selectors

pub returns-in-Selector-clause-row : goal.returns-in-Selector-clause-row
returns-in-Selector-clause-row c =
    let u = c.args.universe.now in
    let env = c.args.env.now in
    let P : Option Sets → Type 0 = λ row. IfOk c.selector.result (λ typed. typed.row ≡ row) in
    subst P (ap (λ ms. Some (selector_row u env c.in-Selector.name ms)) c.as_slice.ensures ∙ sym (ap (λ (e : Expr). kept_row u env (tree e)) c.in-Selector.is)) c.selector.ensures.row

-- signs and operators

pub signed-requires : goal.signed-requires
signed-requires c =
    let u = c.args.universe.now in
    let env = c.args.env.now in
    let of : Tree = tree c.in-Unary.of.value in
    let own : c.args.parts.items ≡ typed_row_of u env of ∷ [] =
    c.requires.parts ∙ ap (λ (e : Expr). map (typed_row_of u env) (chosen (parts_needed (tree e)) (parts_of (tree e)))) c.in-Unary.is in
    record { shape = made_shape u env c.requires.listing c.requires.env of _ (the_one c.the_only-in-Unary.ensures own) }

pub binary-requires-clause-left : goal.binary-requires-clause-left
binary-requires-clause-left c =
    let u = c.args.universe.now in
    let env = c.args.env.now in
    let left : Tree = tree c.in-Binary.left.value in
    let right : Tree = tree c.in-Binary.right.value in
    let own : c.args.parts.items ≡ typed_row_of u env left ∷ typed_row_of u env right ∷ [] =
    c.requires.parts ∙ ap (λ (e : Expr). map (typed_row_of u env) (chosen (parts_needed (tree e)) (parts_of (tree e)))) c.in-Binary.is in
    made_shape u env c.requires.listing c.requires.env left _ (first_of_two c.both-left.ensures own)

pub binary-requires-clause-right : goal.binary-requires-clause-right
binary-requires-clause-right c =
    let u = c.args.universe.now in
    let env = c.args.env.now in
    let left : Tree = tree c.in-Binary.left.value in
    let right : Tree = tree c.in-Binary.right.value in
    let own : c.args.parts.items ≡ typed_row_of u env left ∷ typed_row_of u env right ∷ [] =
    c.requires.parts ∙ ap (λ (e : Expr). map (typed_row_of u env) (chosen (parts_needed (tree e)) (parts_of (tree e)))) c.in-Binary.is in
    made_shape u env c.requires.listing c.requires.env right _ (second_of_two c.both-left.ensures own)

pub returns-in-Binary-clause-row : goal.returns-in-Binary-clause-row
returns-in-Binary-clause-row c =
    let u = c.args.universe.now in
    let env = c.args.env.now in
    let s = c.in-Binary in
    let left : Tree = tree s.left.value in
    let right : Tree = tree s.right.value in
    let own : c.args.parts.items ≡ typed_row_of u env left ∷ typed_row_of u env right ∷ [] =
    c.requires.parts ∙ ap (λ (e : Expr). map (typed_row_of u env) (chosen (parts_needed (tree e)) (parts_of (tree e)))) s.is in
    let row : TypedRow → TypedRow → Option Sets = λ l r. Some (binary_row u s.op s.modifier (is_scalar l.form) (is_scalar r.form) (made_row u l.row) (made_row u r.row)) in
    let P : Option Sets → Type 0 = λ x. IfOk c.binary.result (λ typed. typed.row ≡ x) in
    subst P
    (ap (λ l. row l c.both-left.result.1) (first_of_two c.both-left.ensures own)
    ∙ ap (row (typed_row_of u env left)) (second_of_two c.both-left.ensures own)
    ∙ ap (λ x. Some (binary_row u s.op s.modifier (is_scalar_part left) (is_scalar_part right) x (made_row u (kept_row u env right)))) (made_is u env left)
    ∙ ap (λ x. Some (binary_row u s.op s.modifier (is_scalar_part left) (is_scalar_part right) (row_of u env left) x)) (made_is u env right)
    ∙ sym (ap (λ (e : Expr). kept_row u env (tree e)) s.is))
    c.binary.ensures.row

-- calls and aggregations

pub call-requires-clause-parts : goal.call-requires-clause-parts
call-requires-clause-parts c =
    let u = c.args.universe.now in
    let env = c.args.env.now in
    let s = c.in-Call in
    let o = option_map signature_of c.args.function in
    let is = tree_call c.args.expr.now s.name s.args s.span s.is in
    (env, c.requires.env, c.requires.parts ∙ ap (λ (e : Tree). map (typed_row_of u env) (chosen (parts_needed e) (parts_of e))) is ∙ ap (λ (o : Option Signature). typed_operand u env o (trees s.args)) (sym (c.requires.function ∙ ap called_by is)))

pub returns-in-Call-clause-row : goal.returns-in-Call-clause-row
returns-in-Call-clause-row c =
    let u = c.args.universe.now in
    let env = c.args.env.now in
    let s = c.in-Call in
    let is = tree_call c.args.expr.now s.name s.args s.span s.is in
    let named : option_map signature_of c.args.function ≡ function_named s.name = c.requires.function ∙ ap called_by is in
    let own = c.requires.parts ∙ ap (λ (e : Tree). map (typed_row_of u env) (chosen (parts_needed e) (parts_of e))) is ∙ ap (λ (o : Option Signature). typed_operand u env o (trees s.args)) (sym named) in
    let P : Option Sets → Type 0 = λ x. IfOk c.call.result (λ typed. typed.row ≡ x) in
    subst P (ap (λ (o : Option Signature). Some (call_row u o Ungrouped (trees s.args) (row_at u env (trees s.args)))) named ∙ sym (ap (kept_row u env) is)) (c.call.ensures.row env own)

pub call-requires-in-Aggregate-clause-parts : goal.call-requires-in-Aggregate-clause-parts
call-requires-in-Aggregate-clause-parts c =
    let u = c.args.universe.now in
    let env = c.args.env.now in
    let s = c.in-Aggregate in
    let o = option_map signature_of c.args.function in
    let is = tree_aggregate c.args.expr.now s.op s.grouping s.args s.span s.is in
    (env, c.requires.env, c.requires.parts ∙ ap (λ (e : Tree). map (typed_row_of u env) (chosen (parts_needed e) (parts_of e))) is ∙ ap (λ (o : Option Signature). typed_operand u env o (trees s.args)) (sym (c.requires.function ∙ ap called_by is)))

pub returns-in-Aggregate-clause-row : goal.returns-in-Aggregate-clause-row
returns-in-Aggregate-clause-row c =
    let u = c.args.universe.now in
    let env = c.args.env.now in
    let s = c.in-Aggregate in
    let is = tree_aggregate c.args.expr.now s.op s.grouping s.args s.span s.is in
    let named : option_map signature_of c.args.function ≡ Some (aggregation s.op) = c.requires.function ∙ ap called_by is in
    let own = c.requires.parts ∙ ap (λ (e : Tree). map (typed_row_of u env) (chosen (parts_needed e) (parts_of e))) is ∙ ap (λ (o : Option Signature). typed_operand u env o (trees s.args)) (sym named) in
    let P : Option Sets → Type 0 = λ x. IfOk c.call-in-Aggregate.result (λ typed. typed.row ≡ x) in
    subst P (ap (λ (o : Option Signature). Some (call_row u o s.grouping (trees s.args) (row_at u env (trees s.args)))) named ∙ sym (ap (kept_row u env) is)) (c.call-in-Aggregate.ensures.row env own)
