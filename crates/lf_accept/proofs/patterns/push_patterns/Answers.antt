use Rattle.std.proofs.Common.{◌≡◌, ◌++◌, List, Some, option_map, OnOk, sym, ◌∙◌, ap, subst}
use Rattle.lf_ast.specs.Arguments.{text_at, texts_of}
use Rattle.lf_ast.specs.Functions.{called_by, function_named, signature_of}
use Rattle.lf_ast.specs.Labels.{Bytes}
use Rattle.lf_ast.specs.Tree.{tree, trees}
use Rattle.lf_ast.proofs.TreeOf.{tree_call}
use Rattle.lf_accept.specs.Patterns.{argument_patterns, called_patterns, patterns_here, texts_at}
use Rattle.lf_accept.proofs.patterns.push_patterns.Goals as goal

pub returns-in-Some : goal.returns-in-Some
returns-in-Some c =
    let args = c.in-Call.args in
    let is = tree_call c.args.node.now c.in-Call.name args c.in-Call.span c.in-Call.is in
    let named : Some (signature_of c.in-Some.function) ≡ function_named c.in-Call.name = sym (ap (option_map signature_of) c.in-Some.is) ∙ c.called_by.ensures ∙ ap called_by is in
    let text : c.text_at.result.now ≡ text_at (texts_of (trees args)) 4 = c.text_at.ensures ∙ ap (λ xs. text_at (texts_of (trees xs)) 4) c.as_slice-in-Some.ensures in
    let here : argument_patterns c.in-Some.function.labels c.text_at.result.now ≡ patterns_here (tree c.args.node.now) =
    ap (argument_patterns c.in-Some.function.labels) text ∙ ap (λ s. called_patterns s (text_at (texts_of (trees args)) 4)) named ∙ sym (ap patterns_here is) in
    subst (λ (ps : List Bytes). OnOk c.push_argument.result (texts_at c.push_argument.new.found.items ≡ texts_at c.args.found.now.items ++ ps)) here c.push_argument.ensures
