-- The sets of a row have the lengths that the universe gives.
use Rattle.std.proofs.Common.{true, false, cond}
use Rattle.lf_ast.specs.Rules.{RuleTree}
use Rattle.lf_semantics.specs.ClassRows.{HasShape, bottom}
use Rattle.lf_semantics.specs.Environments.{IsEnvironment, rule_row}
use Rattle.lf_semantics.specs.Listing.{IsListing, Listing}
use Rattle.lf_semantics.specs.Parts.{is_evaluated, type_by_form}
use Rattle.lf_semantics.specs.RowTable.{Environment, row_of}
use Rattle.lf_semantics.proofs.RowLaws.{shape_bottom}
use Rattle.lf_semantics.proofs.Soundness.{shape_of_row}

-- the row of a rule has a set for each label
pub shape_rule : (u : Listing) → IsListing u → (env : Environment) → IsEnvironment u env → (r : RuleTree) → HasShape u (rule_row u env r)
shape_rule u p env of r = elim (is_evaluated (type_by_form r.expr)) as (λ b. HasShape u (cond b (row_of u env r.expr) (bottom u))) [ true ↦ shape_of_row u p env of r.expr | false ↦ shape_bottom u ]
