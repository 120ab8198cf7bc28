use Rattle.std.proofs.Common.{◌≡◌}
use Rattle.lf_ast.proofs.LabelOrders.{order_from}
use Rattle.lf_ast.proofs.label_order.order_of.Given as goal

abbrev pub invariant-loop-k : goal.invariant-loop-k
invariant-loop-k l = order_from 0 l.some l.others ≡ order_from l.k l.some l.others
