use Rattle.std.proofs.Common.{◌≡◌, List, Option, Some, map, sym, ◌∙◌, ap}
use Rattle.std.specs.Option.{option_map}
use Rattle.lf_ast.specs.Functions.{Signature, aggregation, called_by, function_named, signature_of}
use Rattle.lf_ast.specs.Labels.{Bytes}
use Rattle.lf_ast.specs.Rules.{rule_trees}
use Rattle.lf_ast.specs.Tree.{Tree, parts_of, trees}
use Rattle.lf_ast.specs.views.Walks.{chosen}
use Rattle.lf_ast.proofs.TreeOf.{tree_aggregate, tree_call}
use Rattle.lf_nodes.specs.views.Needed.{parts_needed}
use Rattle.lf_uniform.specs.views.Required.{required_argument, required_by_call, required_text, text_of_parts}
use Rattle.lf_uniform.proofs.RequiredTexts.{call_is, of_arguments}
use Rattle.lf_uniform.proofs.required.from_parts.Goals as goal

pub returns-in-Call : goal.returns-in-Call
returns-in-Call c =
    let rules = rule_trees c.args.required.now.setting.now.rules in
    let label : Bytes = c.args.required.now.label.now in
    let s = c.in-Call in
    let o = option_map signature_of c.args.function in
    let is = tree_call c.args.expr.now s.name s.args s.span s.is in
    let named : o ≡ function_named s.name = c.requires.function ∙ ap called_by is in
    let own : c.args.parts.items ≡ of_arguments rules label o (trees s.args) =
    c.requires.parts ∙ ap (λ (e : Tree). map (required_text rules label) (chosen (parts_needed e) (parts_of e))) is ∙ ap (λ (p : Option Signature). of_arguments rules label p (trees s.args)) (sym named) in
    c.by_call.ensures
    ∙ ap (λ (texts : List (Option Bytes)). required_by_call o (λ place. text_of_parts texts)) own
    ∙ call_is rules label o (trees s.args)
    ∙ ap (λ (p : Option Signature). required_by_call p (required_argument rules label (trees s.args))) named
    ∙ sym (ap (required_text rules label) is)

pub returns-in-Aggregate : goal.returns-in-Aggregate
returns-in-Aggregate c =
    let rules = rule_trees c.args.required.now.setting.now.rules in
    let label : Bytes = c.args.required.now.label.now in
    let s = c.in-Aggregate in
    let o = option_map signature_of c.args.function in
    let is = tree_aggregate c.args.expr.now s.op s.grouping s.args s.span s.is in
    let named : o ≡ Some (aggregation s.op) = c.requires.function ∙ ap called_by is in
    let own : c.args.parts.items ≡ of_arguments rules label o (trees s.args) =
    c.requires.parts ∙ ap (λ (e : Tree). map (required_text rules label) (chosen (parts_needed e) (parts_of e))) is ∙ ap (λ (p : Option Signature). of_arguments rules label p (trees s.args)) (sym named) in
    c.by_call-in-Aggregate.ensures
    ∙ ap (λ (texts : List (Option Bytes)). required_by_call o (λ place. text_of_parts texts)) own
    ∙ call_is rules label o (trees s.args)
    ∙ ap (λ (p : Option Signature). required_by_call p (required_argument rules label (trees s.args))) named
    ∙ sym (ap (required_text rules label) is)
