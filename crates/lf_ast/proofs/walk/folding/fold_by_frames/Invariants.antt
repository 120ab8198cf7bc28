use Rattle.std.proofs.Common.{reverse}
use Rattle.std.specs.List.{sum_by}
use Rattle.lf_ast.specs.Tree.{tree}
use Rattle.lf_ast.proofs.Folding.{Makes}
use Rattle.lf_ast.proofs.Walks.{work}
use Rattle.lf_ast.proofs.walk.folding.fold_by_frames.Given as goal

abbrev pub invariant-loop-frame : goal.invariant-loop-frame
invariant-loop-frame g l = Makes (g.F.Fold.value l.fold) (g.F.Fold.needed l.fold) g.F.Fold.notes (tree l.expr) (reverse l.frames.items) l.values.items

abbrev pub decreases-loop-frame : goal.decreases-loop-frame
decreases-loop-frame g l = sum_by work l.frames.items
