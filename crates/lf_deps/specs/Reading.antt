-- Which names an expression reads, directly and through recorded names.
use Rattle.std.specs.Prelude.{◌≡◌, ◌⊎◌, false, List, [], ◌∷◌, Option, Some, None}
use Rattle.std.specs.List.{Contains}
use Rattle.lf_ast.specs.Labels.{Bytes}
use Rattle.lf_ast.specs.Rules.{RuleTree}
use Rattle.lf_ast.specs.Selectors.{selected_name}
use Rattle.lf_ast.specs.Tree.{Tree, Trees, Selector}
use Rattle.lf_semantics.specs.Environments.{names_recorded}
use Rattle.lf_semantics.specs.Parts.{outside_scalars}
use Rattle.lf_semantics.specs.Standing.{found_in, found_in_arguments}

-- Selectors. Each says the name that it selects, by a name before the braces or by its first `=` on the metric name, or it says none. Nothing within a scalar is looked
-- at.

-- what an expression selects by itself, and not by a part
abbrev pub own_selectors : Tree → List (Option Bytes)
own_selectors (Selector name matchers sight span) = selected_name name matchers ∷ []
own_selectors _ = []

-- the selectors of the parts of an expression, and a selector itself
abbrev pub selectors_in : Tree → List (Option Bytes)
selectors_in e = found_in own_selectors e

abbrev pub arguments_selectors : Trees → List (Option Bytes)
arguments_selectors args = found_in_arguments own_selectors args

-- the selectors of an expression: what each selects
abbrev pub selectors : Tree → List (Option Bytes)
selectors e = outside_scalars e (selectors_in e)

-- one of these selectors is of the name, or one is of no name and a rule records the name
abbrev pub SelectsBy : List RuleTree → List (Option Bytes) → Bytes → Type 0
SelectsBy rules found name = Contains found (Some name) ⊎ (Contains found None × Contains (names_recorded rules) name)

-- a selector of the expression selects the name
abbrev pub Selects : List RuleTree → Tree → Bytes → Type 0
Selects rules e name = SelectsBy rules (selectors e) name

-- the rule records the name
abbrev pub Records : RuleTree → Bytes → Type 0
Records r name = (r.alert ≡ false) × (r.name ≡ name)

-- an expression reads a name: it selects it, or it selects a recorded name of which some rule reads it
pub data Reads (rules : List RuleTree) : Tree → Bytes → Type 0 where
  selected : {e : Tree} {name : Bytes} → Selects rules e name → Reads rules e name
  through : {e : Tree} {name : Bytes} (r : RuleTree) → Contains rules r → r.alert ≡ false → Selects rules e r.name → Reads rules r.expr name → Reads rules e name

-- the expression reads a name that the rule records
abbrev pub Reaches : List RuleTree → Tree → RuleTree → Type 0
Reaches rules e r = (r.alert ≡ false) × Reads rules e r.name

-- no name is read by both
abbrev pub AreApart : List RuleTree → Tree → Tree → Type 0
AreApart rules e f = (name : Bytes) → Reads rules e name → Reads rules f name → ⊥

-- the name is read in its own making: by one of its rules
abbrev pub IsCyclic : List RuleTree → Bytes → Type 0
IsCyclic rules name = (r : RuleTree) × Contains rules r × Records r name × Reads rules r.expr name
