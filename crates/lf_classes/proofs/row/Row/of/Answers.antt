use Rattle.std.proofs.Common.{length, ap, arith}
use Rattle.std.specs.List.{sum}
use Rattle.lf_classes.proofs.Changes.{of_full, of_live, of_none, of_total}
use Rattle.lf_classes.proofs.row.Row.of.Goals as goal

pub invariant_of-result : goal.invariant_of-result
invariant_of-result c = record {
  some = omega (arith, c.total.ensures.labels, ap length c.in_ok-shape.ensures);
  total = of_total c.args.on c.args.shape.now c.in_ok-shape.shape c.in_ok-bits.bits c.total.result c.in_ok-bits.ensures c.in_ok-shape.ensures c.total.ensures.sum;
  known = of_live c.args.on c.args.shape.now c.in_ok-shape.shape c.in_ok-bits.bits c.total.result c.in_ok-bits.ensures c.in_ok-shape.ensures c.total.ensures.sum c.total.ensures.classes;
  small = omega (arith, c.total.ensures.small, c.total.ensures.sum, ap sum c.in_ok-shape.ensures);
}

pub returns-clause-full : goal.returns-clause-full
returns-clause-full c = of_full c.args.on c.args.shape.now c.in_ok-shape.shape c.in_ok-bits.bits c.total.result c.in_ok-bits.ensures c.in_ok-shape.ensures c.total.ensures.sum

pub returns-clause-none : goal.returns-clause-none
returns-clause-none c = of_none c.args.on c.args.shape.now c.in_ok-shape.shape c.in_ok-bits.bits c.total.result c.in_ok-bits.ensures c.in_ok-shape.ensures c.total.ensures.sum
