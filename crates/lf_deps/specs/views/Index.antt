-- What the index says of names and of the rules that record them.
use Rattle.std.specs.Prelude.{ℕ, List, [], slice_index_or}
use Rattle.std.specs.List.{flat_map}
use Rattle.lf_ast.specs.Labels.{Bytes}
use Rattle.lf_ast.specs.Rules.{RuleTree}
use Rattle.lf_semantics.specs.Listing.{place}
use Rattle.lf_deps.specs.views.Search.{chosen_all}
use Rattle.lf_deps.specs.views.Sources.{IsSourcesOf, Sources}

-- it is the index of some rules
abbrev pub IsIndex : Sources → Type 0
IsIndex s = (rules : List RuleTree) × IsSourcesOf rules s

-- the numbers of the rules that record the name at a place
abbrev pub makers_at : Sources → ℕ → List ℕ
makers_at s place = slice_index_or s.makers place []

-- the numbers of the rules that record a name
abbrev pub makers_of : Sources → Bytes → List ℕ
makers_of s name = makers_at s (place s.names name)

-- the names that the rules of these numbers select
abbrev pub chosen_by : Sources → List ℕ → List Bytes
chosen_by s makers = flat_map (λ k. chosen_all s.names (slice_index_or s.selected k [])) makers
