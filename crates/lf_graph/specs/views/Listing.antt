-- What is listed for each component, and numbers that are added to a list: how contracts see the code. It defines nothing.
use Rattle.std.specs.Prelude.{◌≡◌, ◌↔◌, ◌<◌, ℕ, List, [], length, map, slice_index_or}
use Rattle.std.specs.List.{Contains}
use Rattle.lf_laws.specs.Gaining.{Gains}
use Rattle.lf_graph.specs.Components.{number_of}
use Rattle.lf_graph.specs.Paths.{after}

-- the node is one of the first n, and of a component
abbrev pub IsMember : List ℕ → ℕ → ℕ → ℕ → Type 0
IsMember numbers n k u = (u < n) × (number_of numbers u ≡ k)

-- an edge leads from one of the first n nodes, of a component, to a node of another component or of the same
abbrev pub IsNext : List (List ℕ) → List ℕ → ℕ → ℕ → ℕ → Type 0
IsNext edges numbers n k l = (u : ℕ) × (v : ℕ) × (u < n) × (number_of numbers u ≡ k) × Contains (after edges u) v × (number_of numbers v ≡ l)

-- for each component those of the first n nodes that are of it
pub record AreMembers (numbers : List ℕ) (n count : ℕ) (lists : List (List ℕ)) : Type 0 where
  pub size : length lists ≡ count
  pub members : (k u : ℕ) → Contains (slice_index_or lists k []) u ↔ IsMember numbers n k u

-- for each component those to which an edge leads from one of the first n nodes that is of it
pub record AreNexts (edges : List (List ℕ)) (numbers : List ℕ) (n count : ℕ) (lists : List (List ℕ)) : Type 0 where
  pub size : length lists ≡ count
  pub nexts : (k l : ℕ) → Contains (slice_index_or lists k []) l ↔ IsNext edges numbers n k l

-- the components of nodes
abbrev pub numbers_of : List ℕ → List ℕ → List ℕ
numbers_of numbers nodes = map (number_of numbers) nodes

-- a list gets these numbers, beside those that it has
abbrev pub Adds : List ℕ → List ℕ → List ℕ → Type 0
Adds added = Gains (λ (l : List ℕ). l) (Contains added)

-- a list gets those of these numbers that are below one, beside those that it has
abbrev pub AddsBelow : List ℕ → ℕ → List ℕ → List ℕ → Type 0
AddsBelow added number = Gains (λ (l : List ℕ). l) (λ k. Contains added k × (k < number))
