use Rattle.std.proofs.Common.{◌≡◌, map, take}
use Rattle.lf_ast.specs.views.Walks.{trees_at}
use Rattle.lf_built.specs.views.Marking.{marks_at}
use Rattle.lf_built.proofs.marking.marks_in.Given as goal

abbrev pub invariant-loop-k : goal.invariant-loop-k
invariant-loop-k l = l.all ≡ map (marks_at l.names) (trees_at (take l.k l.nodes.items))
