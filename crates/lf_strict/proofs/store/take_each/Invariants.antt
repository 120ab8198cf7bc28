use Rattle.std.proofs.Common.{◌++◌, length}
use Rattle.lf_witness.specs.Strict.{AreSame}
use Rattle.lf_strict.proofs.store.take_each.Given as goal

abbrev pub invariant-loop-sample : goal.invariant-loop-sample
invariant-loop-sample l = AreSame (l.initial.all.items ++ l.initial.samples) (l.all.items ++ l.samples)

abbrev pub decreases-loop-sample : goal.decreases-loop-sample
decreases-loop-sample l = length l.samples
