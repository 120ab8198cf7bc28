use Rattle.std.proofs.Common.{rules}
use Rattle.lf_rules.proofs.Nodes.{items_list}
use Rattle.lf_rules.proofs.entries.items_of.Goals as goal

pub returns-in-List : goal.returns-in-List
returns-in-List c = search (rules, items_list _ _ _ c.in-List.is)
