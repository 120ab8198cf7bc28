-- Which rules select the row of each name: how contracts see the code. It defines nothing.
use Rattle.std.specs.Prelude.{◌≡◌, ◌⊎◌, ℕ, List, [], length, Option, Some, None, slice_get, slice_index_or}
use Rattle.std.specs.List.{AllByRecursion, Contains}
use Rattle.lf_ast.specs.Labels.{Bytes}
use Rattle.lf_ast.specs.Tree.{Tree}
use Rattle.lf_ast.specs.Rules.{RuleTree}
use Rattle.lf_semantics.specs.Listing.{place}
use Rattle.lf_deps.specs.Reading.{selectors}

-- the row of a name is selected, alone or among all
abbrev pub SelectsRow : Tree → Bytes → Type 0
SelectsRow e name = Contains (selectors e) (Some name) ⊎ Contains (selectors e) None

-- Names that are selected, the numbers of the rules that select each, and those of the rules that select all.
pub record Index : Type 0 where
  pub names : List Bytes
  pub of_name : List (List ℕ)
  pub of_all : List ℕ

-- there is a list for each name
abbrev pub IsFull : Index → Type 0
IsFull index = length index.of_name ≡ length index.names

-- the rule of this number is listed with what a selector selects
abbrev pub IsListed : Index → ℕ → Option Bytes → Type 0
IsListed index k None = Contains index.of_all k
IsListed index k (Some name) = Contains (slice_index_or index.of_name (place index.names name) []) k

-- each rule is listed with all its selectors, and nothing else is listed
pub record IsIndexOf (rules : List RuleTree) (index : Index) : Type 0 where
  pub all : (k : ℕ) (r : RuleTree) → slice_get rules k ≡ Some r → AllByRecursion (IsListed index k) (selectors r.expr)
  pub only : (k : ℕ) (o : Option Bytes) → IsListed index k o → (r : RuleTree) × (slice_get rules k ≡ Some r) × Contains (selectors r.expr) o
