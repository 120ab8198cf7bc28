use Rattle.std.proofs.Common.{◌≡◌, ◌++◌, drop, length}
use Rattle.lf_ast.specs.Tree.{parts_of, tree}
use Rattle.lf_ast.specs.views.Walks.{trees_at}
use Rattle.lf_open.proofs.speaking.push_parts.Given as goal

abbrev pub invariant-loop-part : goal.invariant-loop-part
invariant-loop-part l = trees_at l.parts.items ++ drop l.place (parts_of (tree l.expr)) ≡ trees_at l.fn.parts.items ++ parts_of (tree l.fn.expr)

abbrev pub decreases-loop-part : goal.decreases-loop-part
decreases-loop-part l = length (drop l.place (parts_of (tree l.expr)))
