-- The line of rules by which labels are followed through a rule's expression.
use Rattle.std.specs.Prelude.{◌≡◌, ℕ, List, Option, Some, None, slice_get}
use Rattle.std.specs.List.{Contains}
use Rattle.lf_ast.specs.Labels.{Bytes}
use Rattle.lf_ast.specs.Rules.{RuleTree}
use Rattle.lf_deps.specs.Reading.{IsCyclic, selectors}
use Rattle.lf_trials.specs.Reached.{IsReach, with_reach}
use Rattle.lf_uniform.specs.views.Lines.{IsLineOf, Line}

-- no rule of these numbers selects, by its name, a name that is read in its own making
abbrev pub IsUncyclic : List RuleTree → List ℕ → Type 0
IsUncyclic rules numbers = (k : ℕ) → Contains numbers k → (r : RuleTree) → slice_get rules k ≡ Some r → (name : Bytes) → Contains (selectors r.expr) (Some name) → IsCyclic rules name → ⊥

-- a selector says a name that is read in its own making, and one of these does
abbrev pub IsCyclicName : List RuleTree → Option Bytes → Type 0
IsCyclicName rules None = ⊥
IsCyclicName rules (Some name) = IsCyclic rules name

abbrev pub IsCyclicIn : List RuleTree → List (Option Bytes) → Type 0
IsCyclicIn rules found = (o : Option Bytes) × Contains found o × IsCyclicName rules o

pub record IsWay (rules : List RuleTree) (number : ℕ) (line : Line) : Type 0 where
  pub own : RuleTree
  pub at : slice_get rules number ≡ Some own
  pub reach : List ℕ
  pub is_reach : IsReach rules own.expr reach
  pub is_line : IsLineOf rules reach line
  pub uncyclic : IsUncyclic rules (with_reach number reach)
