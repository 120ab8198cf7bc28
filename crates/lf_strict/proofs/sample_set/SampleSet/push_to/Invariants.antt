use Rattle.std.proofs.Common.{◌≡◌, ◌++◌}
use Rattle.lf_strict.proofs.sample_set.SampleSet.push_to.Given as goal

abbrev pub invariant-loop-sample : goal.invariant-loop-sample
invariant-loop-sample l = l.all.items ++ l.sample-iterator ≡ l.initial.all.items ++ l.initial.sample-iterator
