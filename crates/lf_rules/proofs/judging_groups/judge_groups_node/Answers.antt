use Rattle.std.proofs.Common.{rules}
use Rattle.lf_rules.proofs.Nodes.{groups_list}
use Rattle.lf_rules.proofs.judging_groups.judge_groups_node.Goals as goal

pub returns-in-List : goal.returns-in-List
returns-in-List c = search (rules, groups_list _ _ _ c.in-List.is)
