-- What rules wait for, by numbers. A recorded name is a source, by its place among the recorded names, and all recorded names together are the source behind these.
use Rattle.std.specs.Prelude.{◌≡◌, ℕ, ◌+◌, cond, nat_lt, List, [], ◌∷◌, length, map, Option, Some, None, slice_index_or}
use Rattle.std.specs.List.{flat_map}
use Rattle.lf_ast.specs.Labels.{Bytes}
use Rattle.lf_ast.specs.Rules.{RuleTree}
use Rattle.lf_semantics.specs.Environments.{recorded_names}
use Rattle.lf_semantics.specs.Listing.{place}
use Rattle.lf_deps.specs.Reading.{selectors}
use Rattle.lf_deps.specs.declared.links.Links.{Links}

-- the source that a selector waits for: none where its name isn't recorded
abbrev pub source_of : List Bytes → Option Bytes → List ℕ
source_of names None = length names ∷ []
source_of names (Some name) = cond (nat_lt (place names name) (length names)) (place names name ∷ []) []

-- the sources that a rule records
abbrev pub recorded_at : List Bytes → RuleTree → List ℕ
recorded_at names r = cond r.alert [] (place names r.name ∷ length names ∷ [])

-- the sources that each rule waits for and that each records
pub record IsLinksOf (rules : List RuleTree) (links : Links) : Type 0 where
  pub count : links.sources ≡ length (recorded_names rules) + 1
  pub waited : links.waited ≡ map (λ (r : RuleTree). flat_map (source_of (recorded_names rules)) (selectors r.expr)) rules
  pub recorded : links.recorded ≡ map (recorded_at (recorded_names rules)) rules

-- those of the rule at a number
abbrev pub waited_by : Links → ℕ → List ℕ
waited_by links k = slice_index_or links.waited k []

abbrev pub recorded_by : Links → ℕ → List ℕ
recorded_by links k = slice_index_or links.recorded k []
