use Rattle.std.proofs.Common.{◌≡◌}
use Rattle.lf_ast.specs.Tree.{tree}
use Rattle.lf_ast.proofs.Walks.{weight}
use Rattle.lf_semantics.specs.Parts.{is_evaluated, type_by_form}
use Rattle.lf_fix.proofs.recording.is_evaluated.Given as goal

abbrev pub invariant-loop-inner : goal.invariant-loop-inner
invariant-loop-inner l = is_evaluated (type_by_form (tree l.inner)) ≡ is_evaluated (type_by_form (tree l.fn.expr))

abbrev pub decreases-loop-inner : goal.decreases-loop-inner
decreases-loop-inner l = weight (tree l.inner)
