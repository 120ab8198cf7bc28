use Rattle.std.proofs.Common.{◌≡◌, take}
use Rattle.lf_ast.specs.Rules.{rule_trees}
use Rattle.lf_trials.specs.Selected.{selected_by}
use Rattle.lf_uniform.specs.views.Naming.{unsaid_by, with_each}
use Rattle.lf_uniform.proofs.naming.with_unsaid.Given as goal

abbrev pub invariant-loop-number : goal.invariant-loop-number
invariant-loop-number l = record {
  names : l.naming.names ≡ with_each l.initial.naming.names (unsaid_by l.initial.naming.setting.now.universe (rule_trees l.initial.naming.setting.now.rules) (selected_by (rule_trees l.initial.naming.setting.now.rules) (take l.number-index l.numbers)));
  setting : l.naming.setting ≡ l.initial.naming.setting;
}
