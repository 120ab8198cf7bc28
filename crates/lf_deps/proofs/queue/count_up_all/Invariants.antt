use Rattle.std.proofs.Common.{◌≡◌, ◌<◌, ◌+◌, ℕ, get_or, length, take}
use Rattle.lf_deps.specs.views.Queue.{occurs}
use Rattle.lf_deps.proofs.queue.count_up_all.Given as goal

abbrev pub invariant-loop-source : goal.invariant-loop-source
invariant-loop-source l = (s : ℕ) → s < length l.fn.counts → get_or l.counts s 0 ≡ get_or l.fn.counts s 0 + occurs s (take l.source-index l.sources)
