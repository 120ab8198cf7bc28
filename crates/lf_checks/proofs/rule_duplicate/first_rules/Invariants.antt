use Rattle.std.proofs.Common.{take}
use Rattle.lf_ast.specs.Rules.{rule_trees}
use Rattle.lf_checks.specs.views.Duplicates.{AreFirsts, AreKept, is_shared}
use Rattle.lf_checks.proofs.rule_duplicate.first_rules.Given as goal

abbrev pub invariant-loop-place : goal.invariant-loop-place
invariant-loop-place l = AreKept (is_shared l.sources) (rule_trees (take l.place l.rules)) l.first_rules.keys l.first_rules.numbers.items × AreFirsts (rule_trees (take l.place l.rules)) l.firsts.items
