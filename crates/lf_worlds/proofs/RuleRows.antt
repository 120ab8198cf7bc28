-- The row of a rule, and whether the rule is a scalar or a vector.
use Rattle.std.proofs.Common.{◌≡◌, ℕ, Bool, true, false, not, cond, List, Some, refl, sym, ap, ◌∙◌, subst, slice_get}
use Rattle.std.proofs.lemmas.Bool.{not-false, not-true}
use Rattle.lf_laws.proofs.Options.{same_option}
use Rattle.lf_laws.proofs.Booleans.{clash}
use Rattle.lf_ast.specs.Rules.{RuleTree, rule_tree, rule_trees}
use Rattle.lf_ast.specs.declared.rule.Rule.{Rule}
use Rattle.lf_deps.proofs.RuleTrees.{tree_at}
use Rattle.lf_semantics.specs.ClassRows.{HasShape, Sets, bottom, is_live}
use Rattle.lf_semantics.specs.Environments.{IsEnvironment, rule_row}
use Rattle.lf_semantics.specs.Listing.{IsListing, Listing}
use Rattle.lf_semantics.specs.Parts.{is_evaluated, type_by_form}
use Rattle.lf_semantics.specs.RowTable.{Environment, row_of}
use Rattle.lf_semantics.proofs.LeqLaws.{bottom_dead}
use Rattle.lf_semantics.proofs.NormalizedRows.{rule_row_is}
use Rattle.lf_worlds.specs.views.Tried.{IsEvaluatedAt}

module _ (u : Listing) (env : Environment) (rules : List Rule) (i : ℕ) (rule : Rule) (value : slice_get rules i ≡ Some rule) (row : Sets) (is_row : row ≡ rule_row u env (rule_tree rule)) where
  pub of_tree : (r : RuleTree) → slice_get (rule_trees rules) i ≡ Some r → row ≡ rule_row u env r
  of_tree r at = is_row ∙ ap (rule_row u env) (same_option (slice_get (rule_trees rules) i) (rule_tree rule) r (tree_at rules i rule value) at)

  pub is_dead : (empty : Bool) → empty ≡ not (is_live row) → empty ≡ true → (r : RuleTree) → slice_get (rule_trees rules) i ≡ Some r → is_live (rule_row u env r) ≡ false
  is_dead empty e is r at = ap is_live (sym (of_tree r at)) ∙ not-true (is_live row) (sym e ∙ is)

  pub is_alive : (empty : Bool) → empty ≡ not (is_live row) → empty ≡ false → is_live row ≡ true
  is_alive empty e is = not-false (is_live row) (sym e ∙ is)

  -- a rule of another type has the empty row
  pub evaluated_at : IsListing u → is_live row ≡ true → IsEvaluatedAt (rule_trees rules) i
  evaluated_at listing live r at = by (is_evaluated (type_by_form r.expr)) (ap is_live (sym (of_tree r at)) ∙ live)
    where
      by : (b : Bool) → is_live (cond b (row_of u env r.expr) (bottom u)) ≡ true → b ≡ true
      by true is = refl
      by false is = absurd (clash (is_live (bottom u)) is (bottom_dead u listing))

  pub row_shape : IsListing u → IsEnvironment u env → HasShape u row
  row_shape listing ok = subst (HasShape u) (sym is_row) (rule_row_is u listing env ok (rule_tree rule)).0

pub live_row : (u : Listing) (env : Environment) (r : RuleTree) (row : Sets) → row ≡ rule_row u env r → is_live row ≡ true → is_live (rule_row u env r) ≡ true
live_row u env r row same live = ap is_live (sym same) ∙ live
