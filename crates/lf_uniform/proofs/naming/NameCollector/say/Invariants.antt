use Rattle.std.proofs.Common.{◌≡◌, take}
use Rattle.lf_ast.specs.Rules.{rule_trees}
use Rattle.lf_uniform.specs.views.Naming.{said_by, with_each}
use Rattle.lf_uniform.proofs.naming.NameCollector.say.Given as goal

abbrev pub invariant-loop-name : goal.invariant-loop-name
invariant-loop-name l = record {
  names : l.self.names ≡ with_each l.fn.self.names (said_by (rule_trees l.fn.self.setting.now.rules) (take l.name-index l.selected));
  setting : l.self.setting ≡ l.fn.self.setting;
}
