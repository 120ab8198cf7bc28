use Rattle.std.specs.Ordering.{nat_cmp}
use Rattle.std.specs.Cmp.Lexicographic.{slice_cmp}
use Rattle.lf_ast.proofs.LabelOrders.{then_nothing}
use Rattle.lf_ast.proofs.label_order.entry_order.Goals as goal

pub returns : goal.returns
returns c = let nothing = then_nothing (slice_cmp nat_cmp c.args.some.now.1 c.args.other.now.1) in cc
