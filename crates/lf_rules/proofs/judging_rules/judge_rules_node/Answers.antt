use Rattle.std.proofs.Common.{rules}
use Rattle.lf_rules.proofs.Nodes.{rules_list}
use Rattle.lf_rules.proofs.judging_rules.judge_rules_node.Goals as goal

pub returns-in-List : goal.returns-in-List
returns-in-List c = search (rules, rules_list _ _ _ c.in-List.is)
