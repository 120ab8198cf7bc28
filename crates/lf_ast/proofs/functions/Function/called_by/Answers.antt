use Rattle.std.proofs.Common.{sym, ◌∙◌, ap}
use Rattle.lf_ast.specs.Functions.{called_by, function_named}
use Rattle.lf_ast.proofs.TreeOf.{tree_call}
use Rattle.lf_ast.proofs.functions.Function.called_by.Goals as goal

pub returns-in-Call : goal.returns-in-Call
returns-in-Call c =
    let s = c.in-Call in
    c.named.ensures ∙ ap function_named c.as_str.ensures ∙ sym (ap called_by (tree_call _ s.name s.args s.span s.is))
