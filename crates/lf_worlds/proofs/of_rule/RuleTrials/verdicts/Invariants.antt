use Rattle.std.proofs.Common.{◌≡◌}
use Rattle.lf_ast.specs.Rules.{rule_trees}
use Rattle.lf_worlds.proofs.LabelVerdicts.{AreTold}
use Rattle.lf_worlds.proofs.of_rule.RuleTrials.verdicts.Given as goal

abbrev pub invariant-loop-label : goal.invariant-loop-label
invariant-loop-label l = (l.self ≡ l.fn.self) × AreTold l.fn.self.universe l.fn.self.env (rule_trees l.fn.self.rules) l.fn.self.number l.row l.label l.verdicts
