use Rattle.std.proofs.Common.{List}
use Rattle.lf_ast.specs.Rules.{RuleTree, rule_trees}
use Rattle.lf_ast.specs.declared.verdict.Finding.{Finding as Row}
use Rattle.lf_checks.proofs.Checking.{are_findings, given_numbered}
use Rattle.lf_checks.proofs.checker.Checker.rule_by.Goals as goal

pub returns-clause-findings : goal.returns-clause-findings
returns-clause-findings c files stand =
    let rules : List RuleTree = rule_trees c.args.self.now.rules in
    let found : List Row = c.in_ok-found.found.items in
    are_findings files c.args.self.now.universe rules c.args.self.now.env c.args.i found c.in_ok-sorted.sorted (c.in_ok-found.ensures.findings files stand) (c.in_ok-sorted.ensures.order files rules)

pub returns-clause-numbers : goal.returns-clause-numbers
returns-clause-numbers c files =
    let rules : List RuleTree = rule_trees c.args.self.now.rules in
    let found : List Row = c.in_ok-found.found.items in
    given_numbered files rules c.args.i found c.in_ok-sorted.sorted (c.in_ok-found.ensures.numbers files) c.in_ok-sorted.ensures.given
