-- Which names selectors read, by numbers: how contracts see the code. It defines nothing.
use Rattle.std.specs.Prelude.{◌<◌, ℕ, List, [], ◌∷◌, Option, Some, None, length, slice_index_or}
use Rattle.std.specs.List.{Contains, flat_map}
use Rattle.lf_ast.specs.Labels.{Bytes}
use Rattle.lf_ast.specs.Rules.{RuleTree}
use Rattle.lf_classes.specs.views.TextSets.{with_text}
use Rattle.lf_deps.specs.Reading.{selectors}
use Rattle.lf_deps.specs.views.Names.{AreNumbersBy, IsGraphOfRules, IsPlaced}
use Rattle.lf_graph.specs.Components.{Components}
use Rattle.lf_semantics.specs.Environments.{names_recorded}
use Rattle.lf_semantics.specs.Listing.{place}
use Rattle.lf_open.specs.declared.read_table.ReadTable.{ReadTable}

-- the name that a selector says, and those of several
abbrev pub said_name : Option Bytes → List Bytes
said_name (Some name) = name ∷ []
said_name None = []

abbrev pub said_names : List (Option Bytes) → List Bytes
said_names found = flat_map said_name found

-- the names that rules record or select have places
pub record HaveNames (rules : List RuleTree) (names : List Bytes) : Type 0 where
  pub recorded : (n : Bytes) → Contains (names_recorded rules) n → IsPlaced names n
  pub selected : (r : RuleTree) (n : Bytes) → Contains rules r → Contains (selectors r.expr) (Some n) → IsPlaced names n

pub record ReadGraph : Type 0 where
  pub names : List Bytes
  pub graph : Components
  pub all : List ℕ

-- the graph of all names of these rules, and what a selector without a name reads
pub record IsReadGraph (rules : List RuleTree) (g : ReadGraph) : Type 0 where
  pub names : HaveNames rules g.names
  pub graph : IsGraphOfRules rules g.names g.graph
  pub all : AreNumbersBy rules g.names None g.all

-- the name that a selector says goes behind the others, unless it is there
abbrev pub with_said : List Bytes → Option Bytes → List Bytes
with_said names (Some name) = with_text names name
with_said names None = names

-- for each name of a table the numbers of the names that its selectors read
abbrev pub AreRead : List RuleTree → List Bytes → ReadTable → Type 0
AreRead rules names t = (j : ℕ) → j < length t.names → AreNumbersBy rules names (Some (slice_index_or t.names j [])) (slice_index_or t.reads j [])

-- the table has these selectors
abbrev pub IsTableOf : List RuleTree → List Bytes → List (Option Bytes) → ReadTable → Type 0
IsTableOf rules names found t = (n : Bytes) → Contains found (Some n) → AreNumbersBy rules names (Some n) (slice_index_or t.reads (place t.names n) [])
