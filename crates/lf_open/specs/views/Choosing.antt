-- Which rules pass a test: how contracts see the code. It defines nothing.
use Rattle.std.specs.Prelude.{◌≡◌, ◌↔◌, ℕ, Bool, true, false, List, Some, slice_get, slice_index_or}
use Rattle.std.specs.List.{Contains}
use Rattle.lf_ast.specs.Rules.{RuleTree}
use Rattle.lf_deps.specs.Reading.{Reaches}

-- for each rule whether it passes
abbrev pub ArePassing : List RuleTree → (RuleTree → Bool) → List Bool → Type 0
ArePassing rules of_rule passing = (k : ℕ) (r : RuleTree) → slice_get rules k ≡ Some r → slice_index_or passing k false ≡ of_rule r

-- whether the rule of a number reads one that passes
abbrev pub TellsRead : List RuleTree → (RuleTree → Bool) → ℕ → Bool → Type 0
TellsRead rules of_rule k reads =
    (r : RuleTree) → slice_get rules k ≡ Some r → (reads ≡ true) ↔ ((s : RuleTree) × Contains rules s × Reaches rules r.expr s × (of_rule s ≡ true))
