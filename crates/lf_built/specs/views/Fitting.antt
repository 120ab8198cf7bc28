-- Which rule was found: how contracts see the code. It defines nothing.
use Rattle.std.specs.Prelude.{◌≡◌, ℕ, List, Option, Some, None, slice_get}
use Rattle.lf_ast.specs.Rules.{RuleTree}

-- the number is that of the rule that was found, or none was
abbrev pub IsFirstRule : List RuleTree → Option (ℕ × RuleTree) → Option ℕ → Type 0
IsFirstRule rules found None = found ≡ None
IsFirstRule rules found (Some k) = (r : RuleTree) × (found ≡ Some (k, r)) × (slice_get rules k ≡ Some r)
