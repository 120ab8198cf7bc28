-- The order of rules, in which a rule that reads no cyclic name comes behind all that it reads.
use Rattle.std.specs.Prelude.{◌≡◌, ◌⊎◌, ◌≤◌, ℕ, false, not, eqb, List, [], ◌∷◌, length, Option, Some, slice_get}
use Rattle.std.specs.List.{Contains, filter, range_with_len}
use Rattle.lf_ast.specs.Labels.{Bytes}
use Rattle.lf_ast.specs.Rules.{RuleTree}
use Rattle.lf_deps.specs.Reading.{SelectsBy, selectors}

-- one of these selectors selects a name that a rule left records
abbrev pub WaitsBy : List RuleTree → List ℕ → List (Option Bytes) → Type 0
WaitsBy rules left found = (j : ℕ) × Contains left j × (other : RuleTree) × (slice_get rules j ≡ Some other) × (other.alert ≡ false) × SelectsBy rules found other.name

-- the rule of a number selects a name that a rule left records, perhaps its own
abbrev pub Waits : List RuleTree → List ℕ → ℕ → Type 0
Waits rules left k = (r : RuleTree) × (slice_get rules k ≡ Some r) × WaitsBy rules left (selectors r.expr)

-- the least of the numbers left that doesn't wait, and the least of all where each waits
abbrev pub IsNext : List RuleTree → List ℕ → ℕ → Type 0
IsNext rules left k =
    Contains left k
    × (((Waits rules left k → ⊥) × ((j : ℕ) → Contains left j → (Waits rules left j → ⊥) → k ≤ j))
    ⊎ (((j : ℕ) → Contains left j → Waits rules left j) × ((j : ℕ) → Contains left j → k ≤ j)))

abbrev pub without : ℕ → List ℕ → List ℕ
without k left = filter (λ j. not (eqb j k)) left

-- the numbers left in their order
abbrev pub IsOrderOf : List RuleTree → List ℕ → List ℕ → Type 0
IsOrderOf rules left [] = left ≡ []
IsOrderOf rules left (k ∷ order) = IsNext rules left k × IsOrderOf rules (without k left) order

-- the order of all rules
abbrev pub IsOrder : List RuleTree → List ℕ → Type 0
IsOrder rules order = IsOrderOf rules (range_with_len 0 (length rules)) order
