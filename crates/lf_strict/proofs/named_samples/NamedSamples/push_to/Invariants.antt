use Rattle.std.proofs.Common.{◌≡◌, ◌++◌}
use Rattle.lf_strict.proofs.StoredSamples.{all_of}
use Rattle.lf_strict.proofs.named_samples.NamedSamples.push_to.Given as goal

abbrev pub invariant-loop-samples : goal.invariant-loop-samples
invariant-loop-samples l = l.all.items ++ all_of l.samples-iterator ≡ l.initial.all.items ++ all_of l.initial.samples-iterator
