use Rattle.std.proofs.Common.{arith}
use Rattle.lf_classes.proofs.Cutting.{start_within}
use Rattle.lf_classes.proofs.shape.places.Goals as goal

pub overflow_add-place : goal.overflow_add-place
overflow_add-place c = omega (arith, c.loop-count.invariant.here, c.requires, start_within c.args.counts.now c.loop-count.count-index (omega arith))
