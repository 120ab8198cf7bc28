use Rattle.std.proofs.Common.{map, take}
use Rattle.std.specs.List.{AllZip, sum_by}
use Rattle.lf_rules.specs.Sources.{source_in}
use Rattle.lf_ast.specs.Rules.{rule_trees}
use Rattle.lf_accept.specs.Accepted.{IsAcceptedRule}
use Rattle.lf_accept.specs.Allowance.{TakesAllowance, count_of_rule}
use Rattle.lf_accept.proofs.rules.rules_of.Given as goal

abbrev pub invariant-loop-source : goal.invariant-loop-source
invariant-loop-source l = record {
  are_rules : AllZip (IsAcceptedRule l.file) (map source_in (take l.source-index l.sources)) (rule_trees l.rules);
  counted : TakesAllowance (sum_by count_of_rule (rule_trees l.rules)) l.initial.allowance l.allowance;
}
