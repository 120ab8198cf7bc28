use Rattle.std.proofs.Common.{◌≡◌, drop}
use Rattle.lf_worlds.specs.views.Tried.{first_with}
use Rattle.lf_worlds.proofs.showing.first_of.Given as goal

abbrev pub invariant-loop-sample : goal.invariant-loop-sample
invariant-loop-sample l = first_with l.label l.presence (drop l.sample-index l.samples) ≡ first_with l.label l.presence l.samples
