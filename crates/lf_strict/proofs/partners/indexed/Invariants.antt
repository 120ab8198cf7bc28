use Rattle.std.proofs.Common.{take}
use Rattle.lf_strict.specs.views.Paired.{IsIndex}
use Rattle.lf_strict.proofs.partners.indexed.Given as goal

abbrev pub invariant-loop-sample : goal.invariant-loop-sample
invariant-loop-sample l = IsIndex l.matching (take l.sample-index l.samples) l.ones
