use Rattle.std.proofs.Common.{◌≡◌, ◌++◌, drop}
use Rattle.std.specs.List.{flat_map}
use Rattle.lf_ast.specs.Tree.{tree}
use Rattle.lf_ast.specs.views.Walks.{trees_at}
use Rattle.lf_accept.specs.Patterns.{patterns_here, patterns_in, texts_at}
use Rattle.lf_accept.proofs.patterns.patterns_of.Given as goal

abbrev pub invariant-loop-node : goal.invariant-loop-node
invariant-loop-node l = texts_at l.found.items ++ flat_map patterns_here (trees_at (drop l.node-index l.node-items)) ≡ patterns_in (tree l.fn.expr)
