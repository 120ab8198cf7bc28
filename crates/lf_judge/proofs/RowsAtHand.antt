-- The rows of a rule's parts, as the checker has them and as they are at hand.
use Rattle.std.proofs.Common.{◌≡◌, ℕ, List, Some, map, sym, subst}
use Rattle.std.specs.Prelude.{slice_get}
use Rattle.lf_ast.specs.Rules.{RuleTree, rule_trees}
use Rattle.lf_ast.specs.Tree.{nodes}
use Rattle.lf_checks.specs.views.Checked.{CheckerView}
use Rattle.lf_semantics.specs.ClassRows.{Sets}
use Rattle.lf_semantics.specs.Listing.{Listing}
use Rattle.lf_semantics.specs.RowTable.{row_of}
use Rattle.lf_judge.specs.declared.at_hand.AtHand.{AtHand}
use Rattle.lf_judge.specs.views.AtHand.{ArePartRowsAt, IsReady, rules_of_hand}

-- these are the rows of the parts of the rule with a number, for a checker
abbrev pub AreOfChecker : ℕ → List Sets → CheckerView → Type 0
AreOfChecker number rows k = (r : RuleTree) → slice_get (rule_trees k.rules) number ≡ Some r → rows ≡ map (row_of k.universe k.env) (nodes r.expr)

module _ (h : AtHand) (ready : IsReady h) (number : ℕ) (rows : List Sets) where
  pub at_hand : AreOfChecker number rows h.checker.now → ArePartRowsAt h number rows
  at_hand are r at = subst (λ (u : Listing). rows ≡ map (row_of u h.env.now) (nodes r.expr)) (sym ready.universe) (subst (AreOfChecker number rows) ready.checker are r at)

  pub of_checker : ArePartRowsAt h number rows → AreOfChecker number rows h.checker.now
  of_checker are = subst (AreOfChecker number rows) (sym ready.checker) (λ r at. subst (λ (u : Listing). rows ≡ map (row_of u h.env.now) (nodes r.expr)) ready.universe (are r at))
