use Rattle.std.proofs.Common.{length}
use Rattle.lf_ast.specs.Tree.{tree}
use Rattle.lf_ast.specs.views.Walks.{trees_at}
use Rattle.lf_parts.proofs.Standing.{IsFolded}
use Rattle.lf_parts.proofs.folding.fold_parts.Given as goal

abbrev pub invariant-loop-node : goal.invariant-loop-node
invariant-loop-node g l = IsFolded (g.F.Fold.value l.fold) (g.F.Fold.value l.fold) (tree l.expr) (trees_at l.nodes.items) l.stack.items l.values.items

abbrev pub decreases-loop-node : goal.decreases-loop-node
decreases-loop-node g l = length l.nodes.items
