-- The strongly connected components of a graph: nodes of which each leads to each other.
use Rattle.std.specs.Prelude.{◌≡◌, ◌↔◌, ℕ, ◌<◌, ◌≤◌, List, [], length, slice_index_or}
use Rattle.std.specs.List.{Contains}
use Rattle.lf_graph.specs.Paths.{IsGraph, Leads, after}

-- the component of a node
abbrev pub number_of : List ℕ → ℕ → ℕ
number_of numbers u = slice_index_or numbers u 0

-- The components are numbered so that an edge leads to a number that isn't greater.
pub record AreNumbers (edges : List (List ℕ)) (numbers : List ℕ) (count : ℕ) : Type 0 where
  pub nodes : length numbers ≡ length edges
  pub below : (u : ℕ) → u < length edges → number_of numbers u < count
  pub together : (u v : ℕ) → u < length edges → v < length edges → number_of numbers u ≡ number_of numbers v → Leads edges u v
  pub down : (u v : ℕ) → Contains (after edges u) v → number_of numbers v ≤ number_of numbers u

-- the number of each node's component, the nodes of each component, and the components to which an edge leads from one of its nodes, perhaps its own
pub record Components : Type 0 where
  pub numbers : List ℕ
  pub members : List (List ℕ)
  pub nexts : List (List ℕ)

pub record AreComponents (edges : List (List ℕ)) (c : Components) : Type 0 where
  pub graph : IsGraph edges
  pub numbered : AreNumbers edges c.numbers (length c.members)
  pub count : length c.nexts ≡ length c.members
  pub members : (k u : ℕ) → Contains (slice_index_or c.members k []) u ↔ ((u < length edges) × (number_of c.numbers u ≡ k))
  pub nexts : (k l : ℕ) → Contains (slice_index_or c.nexts k []) l ↔ ((u : ℕ) × (v : ℕ) × (u < length edges) × (number_of c.numbers u ≡ k) × Contains (after edges u) v × (number_of c.numbers v ≡ l))
