use Rattle.std.proofs.Common.{length}
use Rattle.lf_deps.specs.views.Queue.{Settles}
use Rattle.lf_deps.proofs.queue.Queue.settle_due.Given as goal

abbrev pub invariant-loop-rule : goal.invariant-loop-rule
invariant-loop-rule l = Settles l.links l.fn.self l.self

abbrev pub decreases-loop-rule : goal.decreases-loop-rule
decreases-loop-rule l = length l.self.due
