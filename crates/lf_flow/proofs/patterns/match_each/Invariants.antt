use Rattle.std.proofs.Common.{◌≡◌}
use Rattle.lf_flow.proofs.patterns.match_each.Given as goal

abbrev pub invariant-loop-matcher : goal.invariant-loop-matcher
invariant-loop-matcher l = l.universe ≡ l.initial.universe
