use Rattle.std.proofs.Common.{◌≡◌, List, Option, Some, map, sym, ◌∙◌, ap, subst}
use Rattle.std.specs.Prelude.{IfOk}
use Rattle.std.specs.Option.{option_map}
use Rattle.lf_ast.specs.Functions.{Signature, aggregation, called_by, function_named, signature_of}
use Rattle.lf_ast.specs.Labels.{Bytes}
use Rattle.lf_ast.specs.Rules.{rule_trees}
use Rattle.lf_ast.specs.Tree.{Tree, parts_of, trees}
use Rattle.lf_ast.specs.declared.expr.Expr.{Expr}
use Rattle.lf_ast.specs.declared.expr.Grouping.TheVariants.{None as Ungrouped}
use Rattle.lf_ast.specs.views.Walks.{chosen}
use Rattle.lf_ast.proofs.TreeOf.{tree_aggregate, tree_call}
use Rattle.lf_trials.specs.Follow.{follow, follow_argument, follow_call}
use Rattle.lf_uniform.specs.views.Following.{followed_call, known_by, operand_of, told_of}
use Rattle.lf_nodes.specs.views.Needed.{parts_needed}
use Rattle.lf_uniform.proofs.Operands.{call_is, of_call}
use Rattle.lf_uniform.proofs.following.from_parts.Goals as goal

pub returns-in-Call-clause-text : goal.returns-in-Call-clause-text
returns-in-Call-clause-text c =
    let f = c.args.following.now in
    let u = f.setting.now.universe in
    let rules = rule_trees f.setting.now.rules in
    let label : Bytes = f.label.now in
    let given : Bytes = f.given.now in
    let known : Bytes → Option Bytes = known_by f.names.now f.values.now in
    let s = c.in-Call in
    let o = option_map signature_of c.args.function in
    let is = tree_call c.args.expr.now s.name s.args s.span s.is in
    let named : o ≡ function_named s.name = c.requires.function ∙ ap called_by is in
    let own : c.args.parts.items ≡ of_call u rules label given known o (trees s.args) =
    c.requires.parts ∙ ap (λ (e : Tree). map (told_of u rules label given known) (chosen (parts_needed e) (parts_of e))) is ∙ ap (λ (p : Option Signature). of_call u rules label given known p (trees s.args)) (sym named) in
    subst (λ (x : Option Bytes). IfOk c.called.result (λ made. made.text ≡ x))
    (ap (λ (l : Bytes). followed_call l o Ungrouped (trees c.as_slice-in-Call.result.now) c.operand.result) c.as_str-label.ensures
    ∙ ap (λ (args : List Expr). followed_call label o Ungrouped (trees args) c.operand.result) c.as_slice-in-Call.ensures
    ∙ ap (followed_call label o Ungrouped (trees s.args)) (c.operand.ensures ∙ ap operand_of own)
    ∙ call_is u rules label given known o Ungrouped (trees s.args)
    ∙ ap (λ (p : Option Signature). follow_call label p Ungrouped (trees s.args) (follow_argument u rules label given known (trees s.args))) named
    ∙ sym (ap (follow u rules label given known) is))
    c.called.ensures.text

pub returns-in-Aggregate-clause-text : goal.returns-in-Aggregate-clause-text
returns-in-Aggregate-clause-text c =
    let f = c.args.following.now in
    let u = f.setting.now.universe in
    let rules = rule_trees f.setting.now.rules in
    let label : Bytes = f.label.now in
    let given : Bytes = f.given.now in
    let known : Bytes → Option Bytes = known_by f.names.now f.values.now in
    let s = c.in-Aggregate in
    let o = option_map signature_of c.args.function in
    let is = tree_aggregate c.args.expr.now s.op s.grouping s.args s.span s.is in
    let named : o ≡ Some (aggregation s.op) = c.requires.function ∙ ap called_by is in
    let own : c.args.parts.items ≡ of_call u rules label given known o (trees s.args) =
    c.requires.parts ∙ ap (λ (e : Tree). map (told_of u rules label given known) (chosen (parts_needed e) (parts_of e))) is ∙ ap (λ (p : Option Signature). of_call u rules label given known p (trees s.args)) (sym named) in
    subst (λ (x : Option Bytes). IfOk c.called-in-Aggregate.result (λ made. made.text ≡ x))
    (ap (λ (l : Bytes). followed_call l o s.grouping (trees c.as_slice-in-Aggregate.result.now) c.operand-in-Aggregate.result) c.as_str-label.ensures
    ∙ ap (λ (args : List Expr). followed_call label o s.grouping (trees args) c.operand-in-Aggregate.result) c.as_slice-in-Aggregate.ensures
    ∙ ap (followed_call label o s.grouping (trees s.args)) (c.operand-in-Aggregate.ensures ∙ ap operand_of own)
    ∙ call_is u rules label given known o s.grouping (trees s.args)
    ∙ ap (λ (p : Option Signature). follow_call label p s.grouping (trees s.args) (follow_argument u rules label given known (trees s.args))) named
    ∙ sym (ap (follow u rules label given known) is))
    c.called-in-Aggregate.ensures.text
