use Rattle.std.proofs.Common.{◌≡◌, [], List, length, take}
use Rattle.lf_ast.specs.Rules.{RuleTree}
use Rattle.lf_deps.specs.views.Search.{Grows}
use Rattle.lf_open.specs.views.ReadNames.{AreRead, IsReadGraph, said_names}
use Rattle.lf_open.proofs.read_table.ReadTable.of.Given as goal

abbrev pub invariant-loop-selector : goal.invariant-loop-selector
invariant-loop-selector l =
    (length l.table.reads ≡ length l.table.names)
    × Grows (said_names (take l.selector-index l.selectors)) [] l.table.names
    × ((rules : List RuleTree) → IsReadGraph rules l.graph → AreRead rules l.graph.names l.table)
