use Rattle.std.proofs.Common.{rules}
use Rattle.lf_rules.proofs.Nodes.{rule_map}
use Rattle.lf_rules.proofs.judging_rules.judge_rule_node.Goals as goal

pub returns-in-Map : goal.returns-in-Map
returns-in-Map c = search (rules, rule_map _ _ _ c.in-Map.is)
