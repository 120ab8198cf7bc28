-- Selectors with their matchers, in the order of their text. Nothing within a scalar is looked at.
use Rattle.std.specs.Prelude.{ℕ, List, [], ◌∷◌, Option}
use Rattle.std.specs.List.{flat_map}
use Rattle.lf_ast.specs.Labels.{Bytes}
use Rattle.lf_ast.specs.Rules.{RuleTree}
use Rattle.lf_ast.specs.Selectors.{selected_name}
use Rattle.lf_ast.specs.Tree.{Tree, Trees, Selector}
use Rattle.lf_ast.specs.declared.expr.Matcher.{Matcher}
use Rattle.lf_semantics.specs.Parts.{outside_scalars}
use Rattle.lf_semantics.specs.Standing.{found_in, found_in_arguments}
use Rattle.lf_witness.specs.StrictRuns.{rules_at}

-- the name that a selector says, and its matchers
pub record Selected : Type 0 where
  pub name : Option Bytes
  pub matchers : List Matcher

-- what an expression selects by itself, and not by a part
abbrev pub own_selected : Tree → List Selected
own_selected (Selector name matchers sight span) = record { name = selected_name name matchers; matchers = matchers } ∷ []
own_selected _ = []

-- the selectors of the parts of an expression, and a selector itself
abbrev pub selected_in : Tree → List Selected
selected_in e = found_in own_selected e

abbrev pub selected_in_arguments : Trees → List Selected
selected_in_arguments args = found_in_arguments own_selected args

-- the selectors of an expression
abbrev pub selectors_of : Tree → List Selected
selectors_of e = outside_scalars e (selected_in e)

-- what the selectors of some rules select, in the order of the rules
abbrev pub selected_by : List RuleTree → List ℕ → List Selected
selected_by rules numbers = flat_map (λ r. selectors_of r.expr) (rules_at rules numbers)
