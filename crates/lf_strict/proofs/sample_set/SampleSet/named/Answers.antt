use Rattle.std.proofs.Common.{subst}
use Rattle.lf_witness.specs.Ascending.{IsAscending}
use Rattle.lf_strict.proofs.Times.{strictly_ascends}
use Rattle.lf_strict.proofs.sample_set.SampleSet.named.Goals as goal

pub returns-clause-ascends : goal.returns-clause-ascends
returns-clause-ascends c = subst IsAscending c.self.view_is (strictly_ascends c.self.inside.samples.keys c.iter-sample-items.ensures.ordered)
