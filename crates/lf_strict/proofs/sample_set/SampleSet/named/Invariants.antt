use Rattle.std.proofs.Common.{◌≡◌, ◌++◌}
use Rattle.std.specs.List.{filter}
use Rattle.lf_strict.specs.views.Selected.{has_name}
use Rattle.lf_strict.proofs.sample_set.SampleSet.named.Given as goal

abbrev pub invariant-loop-sample : goal.invariant-loop-sample
invariant-loop-sample l = l.kept.items ++ filter (has_name l.name) l.sample-iterator ≡ filter (has_name l.name) l.initial.sample-iterator
