use Rattle.lf_checks.proofs.checker.Checker.rule.Goals as goal

pub returns-clause-findings : goal.returns-clause-findings
returns-clause-findings c = c.in_ok-found.ensures.findings

pub returns-clause-numbers : goal.returns-clause-numbers
returns-clause-numbers c = c.in_ok-found.ensures.numbers
