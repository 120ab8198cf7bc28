use Rattle.std.proofs.Common.{◌≡◌}
use Rattle.lf_ast.specs.Tree.{tree}
use Rattle.lf_ast.proofs.Walks.{weight}
use Rattle.lf_semantics.specs.Parts.{sought_by}
use Rattle.lf_witness.specs.views.Absence.{also_bare}
use Rattle.lf_nodes.proofs.absence.sought_by.Given as goal

abbrev pub invariant-loop-inner : goal.invariant-loop-inner
invariant-loop-inner l = also_bare l.outside (sought_by (tree l.inner)) ≡ sought_by (tree l.fn.expr)

abbrev pub decreases-loop-inner : goal.decreases-loop-inner
decreases-loop-inner l = weight (tree l.inner)
