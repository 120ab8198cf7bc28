use Rattle.std.proofs.Common.{nat_eq, sym, ◌∙◌, ap}
use Rattle.lf_ast.proofs.TreeOf.{tree_call}
use Rattle.lf_open.specs.Holding.{arguments_of, has_no_argument}
use Rattle.lf_open.proofs.Held.{no_arguments}
use Rattle.lf_open.proofs.holding.has_no_argument.Goals as goal

pub returns-in-Call : goal.returns-in-Call
returns-in-Call c =
    ap (λ n. nat_eq n 0) c.len.ensures ∙ no_arguments c.in-Call.args
    ∙ ap (λ t. has_no_argument (arguments_of t)) (sym (tree_call c.args.expr.now c.in-Call.name c.in-Call.args c.in-Call.span c.in-Call.is))
