use Rattle.std.proofs.Common.{rules}
use Rattle.lf_rules.proofs.Nodes.{group_map}
use Rattle.lf_rules.proofs.judging_groups.judge_group_node.Goals as goal

pub returns-in-Map : goal.returns-in-Map
returns-in-Map c = search (rules, group_map _ _ _ c.in-Map.is)
