-- Environments as the program keeps them, and what joining a row to that of a name makes of one.
use Rattle.std.specs.Prelude.{◌≡◌, ◌<◌, ◌^◌, List, [], ◌∷◌, Option, IfSome, cond, length, map}
use Rattle.std.specs.List.{AllByRecursion}
use Rattle.std.specs.Str.{bytes_eq}
use Rattle.lf_ast.specs.Labels.{Bytes}
use Rattle.lf_semantics.specs.ClassRows.{Sets, join}
use Rattle.lf_semantics.specs.Environments.{IsRow, Leq}
use Rattle.lf_semantics.specs.Listing.{Listing, StandOnce}
use Rattle.lf_semantics.specs.RowTable.{Environment}

-- each name with its row
abbrev pub entries : List Bytes → List Sets → Environment
entries [] rows = []
entries (name ∷ names) [] = []
entries (name ∷ names) (row ∷ rows) = (name, row) ∷ entries names rows

-- the row is the least one that is at least each of these, which are rows of one universe
pub record IsJoinOf (rows : List Sets) (all : Sets) : Type 0 where
  pub universe : Listing
  pub is_row : IsRow universe all
  pub are_rows : AllByRecursion (IsRow universe) rows
  pub above : AllByRecursion (λ row. Leq row all) rows
  pub least : (other : Sets) → AllByRecursion (λ row. Leq row other) rows → Leq all other

-- no name stands twice, each has a row, their numbers have 32 bits, and the row that is kept beside them is their join
pub record AreEntries (names : List Bytes) (rows : List Sets) (all : Option Sets) : Type 0 where
  pub once : StandOnce names
  pub count : length names ≡ length rows
  pub few : length names < 2 ^ 32
  pub joined : IfSome all (IsJoinOf rows)

-- the row is joined to that of the name, and the others stay
abbrev pub joined : Bytes → Sets → Environment → Environment
joined name row env = map (λ entry. (entry.0, cond (bytes_eq entry.0 name) (join entry.1 row) entry.1)) env

-- rows that are joined to another one, the first of them last
abbrev pub joined_each : List Sets → Sets → Sets
joined_each [] row = row
joined_each (first ∷ rows) row = join (joined_each rows row) first
