use Rattle.std.proofs.Common.{◌≡◌, ◌∷◌, [], Bool, List, Option, Some, map, sym, ◌∙◌, ap, subst}
use Rattle.std.specs.Prelude.{IfOk}
use Rattle.std.specs.Option.{option_map}
use Rattle.lf_ast.specs.Functions.{Signature, aggregation, called_by, function_named, signature_of}
use Rattle.lf_ast.specs.Tree.{Tree, parts_of, tree, trees}
use Rattle.lf_ast.specs.Types.{is_scalar}
use Rattle.lf_ast.specs.declared.expr.Expr.{Expr}
use Rattle.lf_ast.specs.declared.expr.Grouping.TheVariants.{None as Ungrouped}
use Rattle.lf_ast.specs.declared.expr.Matcher.{Matcher}
use Rattle.lf_ast.specs.views.Walks.{chosen}
use Rattle.lf_ast.proofs.TreeOf.{tree_aggregate, tree_call}
use Rattle.lf_semantics.specs.Parts.{is_scalar_part}
use Rattle.lf_witness.specs.Strict.{AreSelected, IsSet, StrictBinary, StrictCall, StrictlyEvaluates}
use Rattle.lf_witness.specs.StrictRuns.{InOrder, IsStrictAnswer}
use Rattle.lf_nodes.proofs.Parts.{first_of_two, second_of_two}
use Rattle.lf_strict.specs.declared.evaluated.Evaluated.{Evaluated}
use Rattle.lf_strict.specs.views.Evaluated.{evaluated, operand_of}
use Rattle.lf_nodes.specs.views.Needed.{parts_needed}
use Rattle.lf_strict.proofs.Operands.{call_answer, kept_answer, of_call, operand_is, operand_tree}
use Rattle.lf_strict.proofs.evaluating.from_parts.Goals as goal

pub returns-in-Selector-clause-answer : goal.returns-in-Selector-clause-answer
returns-in-Selector-clause-answer c =
    let W = c.args.store.now in
    let s = c.in-Selector in
    let selected = subst (λ (ms : List Matcher). IfOk c.selector.result (λ made. InOrder (IsSet (AreSelected W s.name ms)) made.answer)) c.as_slice.ensures c.selector.ensures.answer in
    subst (λ (e : Expr). IfOk c.selector.result (λ made. IsStrictAnswer W (tree e) made.answer)) (sym s.is) selected

-- operators

pub returns-in-Binary-clause-answer : goal.returns-in-Binary-clause-answer
returns-in-Binary-clause-answer c =
    let W = c.args.store.now in
    let s = c.in-Binary in
    let left : Tree = tree s.left.value in
    let right : Tree = tree s.right.value in
    let own : c.args.parts.items ≡ evaluated W left ∷ evaluated W right ∷ [] = c.requires.parts ∙ ap (λ (e : Expr). map (evaluated W) (chosen (parts_needed (tree e)) (parts_of (tree e)))) s.is in
    let is_left = first_of_two c.both-left.ensures own in
    let is_right = second_of_two c.both-left.ensures own in
    let P : Bool → Bool → Type 0 = λ x y. IfOk c.binary.result (λ made. InOrder (StrictBinary s.op s.modifier x y (StrictlyEvaluates W left) (StrictlyEvaluates W right)) made.answer) in
    let given = c.binary.ensures.answer W left right (kept_answer W left _ is_left) (kept_answer W right _ is_right) in
    subst (λ (e : Expr). IfOk c.binary.result (λ made. IsStrictAnswer W (tree e) made.answer)) (sym s.is)
    (subst (P (is_scalar_part left)) (ap (λ (k : Evaluated). is_scalar k.form) is_right) (subst (λ x. P x (is_scalar c.both-left.result.1.form)) (ap (λ (k : Evaluated). is_scalar k.form) is_left) given))

-- calls and aggregations

pub returns-in-Call-clause-answer : goal.returns-in-Call-clause-answer
returns-in-Call-clause-answer c =
    let W = c.args.store.now in
    let s = c.in-Call in
    let o = option_map signature_of c.args.function in
    let is = tree_call c.args.expr.now s.name s.args s.span s.is in
    let named : o ≡ function_named s.name = c.requires.function ∙ ap called_by is in
    let own : c.args.parts.items ≡ of_call W o (trees s.args) =
    c.requires.parts ∙ ap (λ (e : Tree). map (evaluated W) (chosen (parts_needed e) (parts_of e))) is ∙ ap (λ (o : Option Signature). of_call W o (trees s.args)) (sym named) in
    let answered = subst (IsStrictAnswer W (operand_tree W o (trees s.args))) (sym (c.operand.ensures ∙ ap operand_of own)) (operand_is W o (trees s.args)) in
    let given = subst (λ (args : List Expr). IfOk c.call.result (λ made. InOrder (StrictCall o Ungrouped (trees args) (λ place. StrictlyEvaluates W (operand_tree W o (trees s.args)))) made.answer)) c.as_slice-in-Call.ensures
    (c.call.ensures.answer W (operand_tree W o (trees s.args)) answered) in
    subst (λ (e : Tree). IfOk c.call.result (λ made. IsStrictAnswer W e made.answer)) (sym is) (call_answer W o (function_named s.name) Ungrouped (trees s.args) c.call.result named given)

pub returns-clause-answer : goal.returns-clause-answer
returns-clause-answer c =
    let W = c.args.store.now in
    let s = c.in-Aggregate in
    let o = option_map signature_of c.args.function in
    let is = tree_aggregate c.args.expr.now s.op s.grouping s.args s.span s.is in
    let named : o ≡ Some (aggregation s.op) = c.requires.function ∙ ap called_by is in
    let own : c.args.parts.items ≡ of_call W o (trees s.args) =
    c.requires.parts ∙ ap (λ (e : Tree). map (evaluated W) (chosen (parts_needed e) (parts_of e))) is ∙ ap (λ (o : Option Signature). of_call W o (trees s.args)) (sym named) in
    let answered = subst (IsStrictAnswer W (operand_tree W o (trees s.args))) (sym (c.operand-in-Aggregate.ensures ∙ ap operand_of own)) (operand_is W o (trees s.args)) in
    let given = subst (λ (args : List Expr). IfOk c.call-in-Aggregate.result (λ made. InOrder (StrictCall o s.grouping (trees args) (λ place. StrictlyEvaluates W (operand_tree W o (trees s.args)))) made.answer)) c.as_slice-in-Aggregate.ensures
    (c.call-in-Aggregate.ensures.answer W (operand_tree W o (trees s.args)) answered) in
    subst (λ (e : Tree). IfOk c.call-in-Aggregate.result (λ made. IsStrictAnswer W e made.answer)) (sym is) (call_answer W o (Some (aggregation s.op)) s.grouping (trees s.args) c.call-in-Aggregate.result named given)
