use Rattle.std.proofs.Common.{false}
use Rattle.lf_worlds.proofs.of_rule.RuleTrials.beside.Goals as goal

pub first_shown-requires-clause-left : goal.first_shown-requires-clause-left
first_shown-requires-clause-left c = c.requires.left false
