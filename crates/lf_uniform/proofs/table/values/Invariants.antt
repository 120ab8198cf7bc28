use Rattle.lf_ast.specs.Rules.{rule_trees}
use Rattle.lf_uniform.specs.views.Lines.{AreValuesBefore}
use Rattle.lf_uniform.proofs.table.values.Given as goal

abbrev pub invariant-loop-number : goal.invariant-loop-number
invariant-loop-number l = AreValuesBefore l.setting.universe (rule_trees l.setting.rules) l.label l.given l.line l.number-index l.values.items
