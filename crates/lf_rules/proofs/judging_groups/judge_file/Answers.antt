use Rattle.std.proofs.Common.{rules}
use Rattle.lf_rules.proofs.Nodes.{file_map}
use Rattle.lf_rules.proofs.judging_groups.judge_file.Goals as goal

pub returns-in-Map : goal.returns-in-Map
returns-in-Map c = search (rules, file_map _ _ _ c.in-Map.is)
