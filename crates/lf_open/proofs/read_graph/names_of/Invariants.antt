use Rattle.std.proofs.Common.{take}
use Rattle.std.specs.List.{flat_map}
use Rattle.lf_ast.specs.Rules.{rule_trees}
use Rattle.lf_deps.specs.views.Search.{Grows}
use Rattle.lf_semantics.specs.Environments.{recorded_names}
use Rattle.lf_open.specs.views.ReadNames.{said_names}
use Rattle.lf_open.proofs.read_graph.names_of.Given as goal

abbrev pub invariant-loop-k : goal.invariant-loop-k
invariant-loop-k l = Grows (flat_map said_names (take l.k l.sources.selected)) (recorded_names (rule_trees l.rules)) l.names
