use Rattle.std.proofs.Common.{◌≡◌, ◌++◌, reverse}
use Rattle.std.specs.List.{sum_by}
use Rattle.lf_ast.specs.Tree.{tree, nodes}
use Rattle.lf_ast.specs.views.Walks.{trees_at}
use Rattle.lf_ast.proofs.Listing.{to_find}
use Rattle.lf_ast.proofs.Walks.{work}
use Rattle.lf_ast.proofs.walk.listing.nodes_by_frames.Given as goal

abbrev pub invariant-loop-frame : goal.invariant-loop-frame
invariant-loop-frame l = trees_at l.found.items ++ to_find (reverse l.open.items) ≡ nodes (tree l.expr)

abbrev pub decreases-loop-frame : goal.decreases-loop-frame
decreases-loop-frame l = sum_by work l.open.items
