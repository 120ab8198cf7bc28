-- Directed graphs. A graph has for each node, counted from 0, the nodes to which an edge leads from it.
use Rattle.std.specs.Prelude.{ℕ, ◌<◌, List, [], length, slice_index_or}
use Rattle.std.specs.List.{Contains}

-- the nodes to which an edge leads from a node
abbrev pub after : List (List ℕ) → ℕ → List ℕ
after edges u = slice_index_or edges u []

-- each edge leads to a node of the graph
abbrev pub IsGraph : List (List ℕ) → Type 0
IsGraph edges = (u v : ℕ) → Contains (after edges u) v → v < length edges

-- edges, perhaps none, lead from a node to another
pub data Leads (edges : List (List ℕ)) : ℕ → ℕ → Type 0 where
  nowhere : {u : ℕ} → Leads edges u u
  along : {u v : ℕ} (w : ℕ) → Contains (after edges u) w → Leads edges w v → Leads edges u v

-- an edge or more lead from a node to itself
abbrev pub IsOnCircle : List (List ℕ) → ℕ → Type 0
IsOnCircle edges u = (w : ℕ) × Contains (after edges u) w × Leads edges w u

-- edges, perhaps none, lead to a node from one of these
abbrev pub IsReached : List (List ℕ) → List ℕ → ℕ → Type 0
IsReached edges start v = (u : ℕ) × Contains start u × Leads edges u v
