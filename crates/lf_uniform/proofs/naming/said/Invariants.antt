use Rattle.std.proofs.Common.{◌≡◌, [], take}
use Rattle.lf_ast.specs.Rules.{rule_trees}
use Rattle.lf_trials.specs.Selected.{selected_by}
use Rattle.lf_uniform.specs.views.Naming.{said_all, with_each}
use Rattle.lf_uniform.proofs.naming.said.Given as goal

abbrev pub invariant-loop-number : goal.invariant-loop-number
invariant-loop-number l = record {
  names : l.naming.names ≡ with_each [] (said_all (rule_trees l.setting.rules) (selected_by (rule_trees l.setting.rules) (take l.number-index l.numbers)));
  setting : l.naming.setting.now ≡ l.setting;
}
