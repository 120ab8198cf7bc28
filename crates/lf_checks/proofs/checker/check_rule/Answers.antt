use Rattle.std.proofs.Common.{sym, subst}
use Rattle.std.specs.Prelude.{IfOk}
use Rattle.lf_ast.specs.Rules.{rule_trees}
use Rattle.lf_checks.specs.AlertTemplate.{HaveSources}
use Rattle.lf_checks.specs.Files.{StandIn}
use Rattle.lf_checks.specs.Findings.{AreFindingsIn}
use Rattle.lf_checks.specs.views.Checked.{CheckerView}
use Rattle.lf_checks.specs.views.Shown.{AreNumbered, all_shown}
use Rattle.lf_checks.proofs.checker.check_rule.Goals as goal

pub rule-requires-clause-sources : goal.rule-requires-clause-sources
rule-requires-clause-sources c = subst (λ (v : CheckerView). HaveSources (rule_trees v.rules)) (sym c.in_ok-checker.ensures) c.requires.sources

pub returns-clause-findings : goal.returns-clause-findings
returns-clause-findings c files stand =
    subst (λ (v : CheckerView). IfOk c.rule.result (λ found. AreFindingsIn files v.universe (rule_trees v.rules) v.env c.args.i (all_shown files (rule_trees v.rules) found))) c.in_ok-checker.ensures
    (c.rule.ensures.findings files (subst (λ (v : CheckerView). StandIn files (rule_trees v.rules)) (sym c.in_ok-checker.ensures) stand))

pub returns-clause-numbers : goal.returns-clause-numbers
returns-clause-numbers c files = subst (λ (v : CheckerView). IfOk c.rule.result (AreNumbered files (rule_trees v.rules) c.args.i)) c.in_ok-checker.ensures (c.rule.ensures.numbers files)
