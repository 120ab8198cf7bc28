use Rattle.std.proofs.Common.{rules}
use Rattle.lf_rules.proofs.Nodes.{entries_map}
use Rattle.lf_rules.proofs.entries.entries_of.Goals as goal

pub returns-in-Map : goal.returns-in-Map
returns-in-Map c = search (rules, entries_map _ _ _ c.in-Map.is)
