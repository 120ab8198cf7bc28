use Rattle.std.proofs.Common.{◌≡◌}
use Rattle.lf_flow.proofs.patterns.match_in.Given as goal

abbrev pub invariant-loop-node : goal.invariant-loop-node
invariant-loop-node l = l.universe ≡ l.initial.universe
