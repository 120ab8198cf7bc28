-- Graphs of names. A name is a node, by its place among names that begin with the recorded ones, and all recorded names together are the node behind these.
use Rattle.std.specs.Prelude.{◌≡◌, ◌<◌, ◌↔◌, ℕ, List, [], ◌∷◌, ◌++◌, Option, length, map, slice_index_or}
use Rattle.std.specs.List.{Contains, flat_map, range_with_len}
use Rattle.lf_ast.specs.Labels.{Bytes}
use Rattle.lf_ast.specs.Rules.{RuleTree}
use Rattle.lf_graph.specs.Components.{AreComponents, Components}
use Rattle.lf_semantics.specs.Listing.{place}
use Rattle.lf_deps.specs.views.Index.{makers_at}
use Rattle.lf_deps.specs.views.Links.{source_of}
use Rattle.lf_deps.specs.views.Search.{ReadsBy}
use Rattle.lf_deps.specs.views.Sources.{IsSourcesOf, Sources}

-- the name has a place among these
abbrev pub IsPlaced : List Bytes → Bytes → Type 0
IsPlaced names name = place names name < length names

-- they are these first names, and others behind them
abbrev pub BeginWith : List Bytes → List Bytes → Type 0
BeginWith names first = (more : List Bytes) × (names ≡ first ++ more)

-- the nodes of what the rule of a number selects: those of the names, and that of all recorded names where a selector says none
abbrev pub nodes_of : List Bytes → Sources → ℕ → List ℕ
nodes_of names s k = flat_map (source_of names) (slice_index_or s.selected k [])

-- those of the rules of these numbers
abbrev pub nodes_by : List Bytes → Sources → List ℕ → List ℕ
nodes_by names s makers = flat_map (nodes_of names s) makers

-- edges lead from a name to what its rules select, and from the node of all recorded names to each of these
abbrev pub edges_of : List Bytes → Sources → List (List ℕ)
edges_of names s = map (λ at. nodes_by names s (makers_at s at)) (range_with_len 0 (length names)) ++ range_with_len 0 (length s.names) ∷ []

-- the components of the graph of these names, and of that of the recorded names alone
abbrev pub IsGraphOf : List Bytes → Sources → Components → Type 0
IsGraphOf names s c = BeginWith names s.names × AreComponents (edges_of names s) c

abbrev pub IsNameGraphOf : Sources → Components → Type 0
IsNameGraphOf s c = IsGraphOf s.names s c

-- the components of the graph of these names, of which rules record or select some
abbrev pub IsGraphOfRules : List RuleTree → List Bytes → Components → Type 0
IsGraphOfRules rules names c = (s : Sources) × IsSourcesOf rules s × IsGraphOf names s c

-- it is the number of a name that the selector reads
abbrev pub IsNumberBy : List RuleTree → List Bytes → Option Bytes → ℕ → Type 0
IsNumberBy rules names o k = (k < length names) × ((n : Bytes) × ReadsBy rules (o ∷ []) n × (place names n ≡ k))

-- they are the numbers of the names that the selector reads
abbrev pub AreNumbersBy : List RuleTree → List Bytes → Option Bytes → List ℕ → Type 0
AreNumbersBy rules names o numbers = (k : ℕ) → Contains numbers k ↔ IsNumberBy rules names o k
