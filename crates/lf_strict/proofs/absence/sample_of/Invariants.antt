use Rattle.std.proofs.Common.{◌≡◌, ◌-◌, drop, length}
use Rattle.lf_witness.proofs.SomeSample.{sought_labels}
use Rattle.lf_strict.proofs.absence.sample_of.Given as goal

abbrev pub invariant-loop-k : goal.invariant-loop-k
invariant-loop-k l = l.sample ≡ sought_labels (drop (length l.matchers - l.k) l.matchers)
