use Rattle.std.proofs.Common.{true, take}
use Rattle.lf_ast.specs.Rules.{rule_trees}
use Rattle.lf_witness.specs.StrictRuns.{rules_at}
use Rattle.lf_strict.specs.views.Running.{IsStretch}
use Rattle.lf_strict.proofs.running.run_steps.Given as goal

abbrev pub invariant-loop-place : goal.invariant-loop-place
invariant-loop-place l = IsStretch l.initial.store (rules_at (rule_trees l.rules) (take l.place-index l.steps)) l.store true
