use Rattle.std.proofs.Common.{◌++◌, length}
use Rattle.lf_witness.specs.Strict.{AreSame}
use Rattle.lf_strict.proofs.store.Store.take_listed.Given as goal

abbrev pub invariant-loop-sample : goal.invariant-loop-sample
invariant-loop-sample l = AreSame (l.initial.self ++ l.initial.samples) (l.self ++ l.samples)

abbrev pub decreases-loop-sample : goal.decreases-loop-sample
decreases-loop-sample l = length l.samples
