use Rattle.std.proofs.Common.{◌≡◌, length, map}
use Rattle.lf_ast.specs.Tree.{Tree, tree, nodes}
use Rattle.lf_ast.specs.views.Walks.{trees_at}
use Rattle.lf_parts.proofs.Standing.{IsGrouped}
use Rattle.lf_parts.proofs.grouping.by_parts.Given as goal

abbrev pub invariant-loop-node : goal.invariant-loop-node
invariant-loop-node g l =
    (value : Tree → g.row.T.Denot) → l.fn.values.items ≡ map value (nodes (tree l.expr)) → IsGrouped value (tree l.expr) (trees_at l.nodes.items) l.stack.items l.left l.groups.items

abbrev pub decreases-loop-node : goal.decreases-loop-node
decreases-loop-node g l = length l.nodes.items
