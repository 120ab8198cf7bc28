-- How many selectors stand in rules: how contracts see the code. It defines nothing.
use Rattle.std.specs.Prelude.{ℕ, ◌+◌, eqb, cond, List, [], ◌∷◌, length, sum, map, slice_get, option_to_list}
use Rattle.lf_ast.specs.Rules.{RuleTree}
use Rattle.lf_deps.specs.Reading.{selectors}

-- in the rule of a number, if there is one
abbrev pub selected : List RuleTree → ℕ → ℕ
selected rules k = sum (map (λ r. length (selectors r.expr)) (option_to_list (slice_get rules k)))

-- in the rules of some numbers but that of one
abbrev pub others : List RuleTree → ℕ → List ℕ → ℕ
others rules i [] = 0
others rules i (k ∷ reach) = cond (eqb i k) 0 (selected rules k) + others rules i reach
