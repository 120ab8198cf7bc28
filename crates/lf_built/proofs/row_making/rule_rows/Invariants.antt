use Rattle.std.proofs.Common.{take}
use Rattle.lf_ast.specs.Rules.{rule_trees}
use Rattle.std.specs.List.{AllZip}
use Rattle.lf_built.specs.views.RuleRows.{IsRowOf}
use Rattle.lf_built.proofs.row_making.rule_rows.Given as goal

abbrev pub invariant-loop-k : goal.invariant-loop-k
invariant-loop-k l = AllZip (IsRowOf l.universe l.env l.forks (rule_trees l.rules)) (rule_trees (take l.k l.rules)) l.rows
