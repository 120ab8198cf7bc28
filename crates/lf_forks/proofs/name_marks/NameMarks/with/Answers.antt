use Rattle.lf_forks.proofs.Puts.{marks_next}
use Rattle.lf_forks.proofs.name_marks.NameMarks.with.Goals as goal

pub loop-node-preserved : goal.loop-node-preserved
loop-node-preserved c = marks_next c.args.nodes.now c.loop-node.node-index c.args.self c.loop-node.self c.mark_place.new.self c.loop-node-test.true c.loop-node.invariant c.mark_place.ensures
