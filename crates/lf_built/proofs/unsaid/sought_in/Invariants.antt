use Rattle.std.proofs.Common.{◌≡◌, List, take}
use Rattle.std.specs.List.{AllZip}
use Rattle.lf_ast.specs.Rules.{RuleTree}
use Rattle.lf_ast.specs.views.Walks.{trees_at}
use Rattle.lf_semantics.specs.Environments.{recorded_names}
use Rattle.lf_built.specs.views.Unsaid.{IsSought}
use Rattle.lf_built.proofs.unsaid.sought_in.Given as goal

abbrev pub invariant-loop-k : goal.invariant-loop-k
invariant-loop-k l = (rules : List RuleTree) → l.recorded ≡ recorded_names rules → AllZip (IsSought l.universe rules) (trees_at (take l.k l.nodes.items)) l.found.items
