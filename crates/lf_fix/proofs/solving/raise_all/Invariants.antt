use Rattle.lf_ast.specs.Rules.{rule_trees}
use Rattle.lf_fix.specs.views.Rounds.{Tells}
use Rattle.lf_fix.proofs.solving.raise_all.Given as goal

abbrev pub invariant-loop-place : goal.invariant-loop-place
invariant-loop-place l = Tells l.universe (rule_trees l.rules) l.order l.place l.fn.env l.env l.dirty l.added
