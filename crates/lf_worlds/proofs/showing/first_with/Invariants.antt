use Rattle.std.proofs.Common.{◌≡◌, length}
use Rattle.std.specs.Option.{option_or}
use Rattle.lf_worlds.specs.views.Tried.{first_with}
use Rattle.lf_worlds.proofs.showing.first_with.Given as goal

abbrev pub invariant-loop-sample : goal.invariant-loop-sample
invariant-loop-sample l = first_with l.label l.presence l.initial.samples ≡ option_or (first_with l.label l.presence l.samples) l.first

abbrev pub decreases-loop-sample : goal.decreases-loop-sample
decreases-loop-sample l = length l.samples
