use Rattle.std.proofs.Common.{◌≡◌, length}
use Rattle.lf_ast.specs.Rules.{rule_trees}
use Rattle.lf_fix.specs.views.Rounds.{OthersHold, Rises, missing, start}
use Rattle.lf_fix.proofs.solving.rounds.Given as goal

abbrev pub invariant-loop-env : goal.invariant-loop-env
invariant-loop-env l = Rises l.universe (rule_trees l.rules) (start l.universe (rule_trees l.rules)) l.env × OthersHold l.universe (rule_trees l.rules) l.env l.dirty × (length l.dirty ≡ length l.rules)

abbrev pub decreases-loop-env : goal.decreases-loop-env
decreases-loop-env l = missing l.env
