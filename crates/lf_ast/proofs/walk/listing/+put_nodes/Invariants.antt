use Rattle.std.proofs.Common.{◌≡◌, ◌++◌, length}
use Rattle.lf_ast.specs.Tree.{nodes, parts_of, tree}
use Rattle.lf_ast.specs.views.Walks.{chosen, trees_at}
use Rattle.lf_ast.proofs.Listing.{nodes_all}
use Rattle.lf_ast.proofs.walk.listing.+put_nodes.Given as goal

abbrev pub invariant-parts : goal.invariant-parts
invariant-parts l = trees_at l.found.items ++ nodes_all (chosen l.rest (parts_of (tree l.expr))) ≡ trees_at l.fn.found.items ++ nodes (tree l.expr)

abbrev pub decreases-parts : goal.decreases-parts
decreases-parts l = length (chosen l.rest (parts_of (tree l.expr)))

abbrev pub decreases-put_nodes : goal.decreases-put_nodes
decreases-put_nodes l = l.calls
