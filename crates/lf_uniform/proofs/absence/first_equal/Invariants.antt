use Rattle.std.proofs.Common.{◌≡◌, drop}
use Rattle.lf_uniform.specs.views.Following.{first_equal}
use Rattle.lf_uniform.proofs.absence.first_equal.Given as goal

abbrev pub invariant-loop-matcher : goal.invariant-loop-matcher
invariant-loop-matcher l = first_equal l.label (drop l.matcher-index l.matchers) ≡ first_equal l.label l.matchers
