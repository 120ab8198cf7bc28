use Rattle.std.proofs.Common.{◌≡◌, ◌<◌, ℕ, get_or, length, take}
use Rattle.lf_deps.specs.views.Queue.{occurs_in}
use Rattle.lf_deps.proofs.queue.count_all.Given as goal

abbrev pub invariant-loop-k : goal.invariant-loop-k
invariant-loop-k l = (length l.counts.items ≡ l.links.sources) × ((s : ℕ) → s < l.links.sources → get_or l.counts.items s 0 ≡ occurs_in s (take l.k l.links.recorded))
