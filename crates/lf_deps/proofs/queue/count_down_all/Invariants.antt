use Rattle.std.proofs.Common.{take}
use Rattle.lf_deps.specs.views.Queue.{CountsDown}
use Rattle.lf_deps.proofs.queue.count_down_all.Given as goal

abbrev pub invariant-loop-source : goal.invariant-loop-source
invariant-loop-source l = CountsDown l.listed (take l.source-index l.sources) l.fn.counts l.counts l.fn.due l.due
