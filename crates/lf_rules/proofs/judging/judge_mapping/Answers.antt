use Rattle.std.proofs.Common.{rules}
use Rattle.lf_rules.proofs.Nodes.{settings_map}
use Rattle.lf_rules.proofs.judging.judge_mapping.Goals as goal

pub returns-in-Map : goal.returns-in-Map
returns-in-Map c = search (rules, settings_map c.args.is_labels _ _ _ c.in-Map.is)
