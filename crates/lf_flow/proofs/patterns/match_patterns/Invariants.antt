use Rattle.std.proofs.Common.{◌≡◌}
use Rattle.lf_flow.proofs.patterns.match_patterns.Given as goal

abbrev pub invariant-loop-rule : goal.invariant-loop-rule
invariant-loop-rule l = l.universe ≡ l.initial.universe
