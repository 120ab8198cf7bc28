use Rattle.std.proofs.Common.{◌≡◌, ◌-◌, drop, length}
use Rattle.lf_semantics.specs.Worlds.{with_labels}
use Rattle.lf_strict.proofs.storing.set_labels.Given as goal

abbrev pub invariant-loop-k : goal.invariant-loop-k
invariant-loop-k l = l.sample ≡ with_labels (drop (length l.labels - l.k) l.labels) l.initial.sample
