use Rattle.std.proofs.Common.{◌≡◌, true, take}
use Rattle.lf_trials.specs.Names.{passes_as_name}
use Rattle.lf_candidates.proofs.names.passes_as_name.Given as goal

abbrev pub invariant-loop-matcher : goal.invariant-loop-matcher
invariant-loop-matcher l = passes_as_name (take l.matcher-index l.matchers) l.name ≡ true
