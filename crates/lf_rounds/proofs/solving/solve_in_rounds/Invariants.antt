use Rattle.std.proofs.Common.{◌*◌, ◌-◌, length}
use Rattle.lf_ast.specs.Rules.{rule_trees}
use Rattle.lf_semantics.specs.Environments.{IsEnvironmentOf}
use Rattle.lf_rounds.specs.views.Rising.{bits_set}
use Rattle.lf_rounds.specs.views.Standings.{IsStanding}
use Rattle.lf_rounds.proofs.solving.solve_in_rounds.Given as goal

abbrev pub invariant-rounds : goal.invariant-rounds
invariant-rounds g l = record {
  standing : IsStanding l.universe (rule_trees l.rules) l.standing;
  env : IsEnvironmentOf l.universe (rule_trees l.rules) l.env;
}

-- no round but the last leaves as many bits unset
abbrev pub decreases-rounds : goal.decreases-rounds
decreases-rounds g l = 64 * length l.standing.words - bits_set l.standing.words
