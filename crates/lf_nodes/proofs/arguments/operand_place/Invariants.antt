use Rattle.std.proofs.Common.{◌≡◌, ℕ, ◌<◌, false, get_or}
use Rattle.lf_ast.specs.declared.expr.ExprType.{ExprType}
use Rattle.lf_semantics.specs.Parts.{takes_samples}
use Rattle.lf_nodes.proofs.arguments.operand_place.Given as goal

abbrev pub invariant-loop-place : goal.invariant-loop-place
invariant-loop-place l = (k : ℕ) (d : ExprType) → k < l.place → takes_samples (get_or l.takes k d) ≡ false
