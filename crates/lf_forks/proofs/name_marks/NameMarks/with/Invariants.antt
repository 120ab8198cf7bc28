use Rattle.std.proofs.Common.{take}
use Rattle.lf_forks.specs.views.NameMarks.{Marks}
use Rattle.lf_forks.proofs.name_marks.NameMarks.with.Given as goal

abbrev pub invariant-loop-node : goal.invariant-loop-node
invariant-loop-node l = Marks (take l.node-index l.nodes) l.fn.self l.self
