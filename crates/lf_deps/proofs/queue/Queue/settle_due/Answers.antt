use Rattle.lf_deps.proofs.Settling.{due_rule, popped}
use Rattle.lf_deps.proofs.queue.Queue.settle_due.Goals as goal

pub settle-requires-clause-queue : goal.settle-requires-clause-queue
settle-requires-clause-queue c = popped c.args.links.now c.loop-rule.self c.pop.new.self c.in-Some.rule c.in-Some.ensures.some c.loop-rule.invariant.queue

pub settle-requires-clause-rule : goal.settle-requires-clause-rule
settle-requires-clause-rule c = due_rule c.args.links.now c.loop-rule.self c.pop.new.self c.in-Some.rule c.in-Some.ensures.some c.loop-rule.invariant.queue
