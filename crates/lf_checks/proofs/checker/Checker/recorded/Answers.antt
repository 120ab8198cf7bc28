use Rattle.std.proofs.Common.{subst}
use Rattle.lf_ast.specs.Rules.{rule_trees}
use Rattle.lf_checks.specs.views.Checked.{CheckerView}
use Rattle.lf_checks.specs.views.Recorded.{AreOf}
use Rattle.lf_checks.proofs.checker.Checker.recorded.Goals as goal

pub returns : goal.returns
returns c = subst (λ (v : CheckerView). AreOf (rule_trees v.rules) c.self.inside.recorded) c.self.view_is c.self.invariant.1
