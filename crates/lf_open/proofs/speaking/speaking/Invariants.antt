use Rattle.std.specs.List.{sum_by}
use Rattle.lf_ast.specs.Tree.{tree}
use Rattle.lf_ast.specs.views.Walks.{trees_at}
use Rattle.lf_open.proofs.StandingParts.{Walked, size}
use Rattle.lf_open.proofs.speaking.speaking.Given as goal

abbrev pub invariant-loop-part : goal.invariant-loop-part
invariant-loop-part l = Walked (tree l.fn.expr) (trees_at l.found.items) (trees_at l.left.items)

abbrev pub decreases-loop-part : goal.decreases-loop-part
decreases-loop-part l = sum_by size (trees_at l.left.items)
