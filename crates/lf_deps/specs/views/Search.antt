-- What a search from selectors has met: how contracts see the code. It defines nothing.
use Rattle.std.specs.Prelude.{◌≡◌, ◌+◌, ◌⊎◌, ◌↔◌, ℕ, Bool, true, false, not, ◌&&◌, cond, List, [], ◌∷◌, ◌++◌, Option, Some, None, take}
use Rattle.std.specs.List.{Contains, flat_map}
use Rattle.std.specs.Str.{bytes_eq}
use Rattle.lf_ast.specs.Labels.{Bytes}
use Rattle.lf_ast.specs.Rules.{RuleTree}
use Rattle.lf_deps.specs.Reading.{Reads, SelectsBy, selectors}

-- the names that a selector selects: its own, or each that is recorded
abbrev pub chosen : List Bytes → Option Bytes → List Bytes
chosen recorded (Some name) = name ∷ []
chosen recorded None = recorded

abbrev pub chosen_all : List Bytes → List (Option Bytes) → List Bytes
chosen_all recorded found = flat_map (chosen recorded) found

-- the selectors of a rule, if it records the name
abbrev pub made_by : Bytes → RuleTree → List (Option Bytes)
made_by name r = cond (not r.alert && bytes_eq r.name name) (selectors r.expr) []

-- the selectors of all rules that record the name
abbrev pub making : List RuleTree → Bytes → List (Option Bytes)
making rules name = flat_map (made_by name) rules

-- a list goes on with some of these names, so that it has them all
abbrev pub Grows : List Bytes → List Bytes → List Bytes → Type 0
Grows added old new = (more : List Bytes) × (new ≡ old ++ more) × ((n : Bytes) → Contains more n → Contains added n) × ((n : Bytes) → Contains added n → Contains new n)

-- where it is said so, all recorded names are in the list
abbrev pub HasAll : List Bytes → Bool → List Bytes → Type 0
HasAll recorded all texts = all ≡ true → (n : Bytes) → Contains recorded n → Contains texts n

-- what selectors read: what they select, and what the rules read that record such a name
abbrev pub ReadsBy : List RuleTree → List (Option Bytes) → Bytes → Type 0
ReadsBy rules start name =
    SelectsBy rules start name ⊎ ((r : RuleTree) × Contains rules r × (r.alert ≡ false) × SelectsBy rules start r.name × Reads rules r.expr name)

-- the names that selectors read
abbrev pub AreRead : List RuleTree → List (Option Bytes) → List Bytes → Type 0
AreRead rules start texts = (name : Bytes) → Contains texts name ↔ ReadsBy rules start name

-- a search from selectors has met these names, and followed as many of them to what their rules select
pub record IsSearch (rules : List RuleTree) (start : List (Option Bytes)) (texts : List Bytes) (next : ℕ) : Type 0 where
  pub read : (n : Bytes) → Contains texts n → ReadsBy rules start n
  pub begun : (n : Bytes) → SelectsBy rules start n → Contains texts n
  pub followed : (name : Bytes) → Contains (take next texts) name → (n : Bytes) → SelectsBy rules (making rules name) n → Contains texts n

-- the numbers of the rules that pass a test, counted on from a number
abbrev pub numbers_of : (RuleTree → Bool) → ℕ → List RuleTree → List ℕ
numbers_of test k [] = []
numbers_of test k (r ∷ rules) = cond (test r) (k ∷ numbers_of test (k + 1) rules) (numbers_of test (k + 1) rules)
