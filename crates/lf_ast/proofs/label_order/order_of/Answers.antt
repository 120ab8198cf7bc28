use Rattle.std.proofs.Common.{sym, ◌∙◌, arith}
use Rattle.lf_ast.proofs.LabelOrders.{at_the_end}
use Rattle.lf_ast.proofs.label_order.order_of.Goals as goal

pub returns : goal.returns
returns c = c.cmp.ensures ∙ sym (c.loop-k.invariant ∙ at_the_end c.loop-k.k c.args.some.now c.args.others.now (omega arith))
