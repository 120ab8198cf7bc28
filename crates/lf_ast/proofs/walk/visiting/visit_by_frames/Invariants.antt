use Rattle.std.proofs.Common.{reverse}
use Rattle.std.specs.List.{sum_by}
use Rattle.lf_ast.specs.Tree.{tree}
use Rattle.lf_ast.proofs.Visiting.{Leaves}
use Rattle.lf_ast.proofs.Walks.{work}
use Rattle.lf_ast.proofs.walk.visiting.visit_by_frames.Given as goal

abbrev pub invariant-loop-frame : goal.invariant-loop-frame
invariant-loop-frame g l = let V = g.V.Visitor in Leaves V.visited V.between V.behind V.notes (V.visited l.fn.visitor (tree l.expr)) (reverse l.frames.items) l.visitor

abbrev pub decreases-loop-frame : goal.decreases-loop-frame
decreases-loop-frame g l = sum_by work l.frames.items
