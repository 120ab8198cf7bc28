use Rattle.std.proofs.Common.{sym, ◌∙◌, ap}
use Rattle.lf_ast.specs.Tree.{trees}
use Rattle.lf_ast.proofs.TreeOf.{tree_call}
use Rattle.lf_open.specs.Holding.{arguments_of}
use Rattle.lf_open.proofs.forms.arguments_of.Goals as goal

pub returns-in-Call : goal.returns-in-Call
returns-in-Call c = ap trees c.as_slice.ensures ∙ ap arguments_of (sym (tree_call c.args.expr.now c.in-Call.name c.in-Call.args c.in-Call.span c.in-Call.is))
