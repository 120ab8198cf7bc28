-- The weights of what the nodes of a graph reach. The first nodes have weights, as many as there are.
use Rattle.std.specs.Prelude.{ℕ, ◌<◌, ◌↔◌, List, length, slice_index_or}
use Rattle.std.specs.List.{Contains, range_with_len, sum_by}
use Rattle.lf_laws.specs.Ascending.{AreAscending}
use Rattle.lf_graph.specs.Paths.{Leads}

-- in ascending order those of the first n nodes to which edges, perhaps none, lead from a node
pub record IsReachedFrom (edges : List (List ℕ)) (n u : ℕ) (nodes : List ℕ) : Type 0 where
  pub ascending : AreAscending nodes
  pub members : (v : ℕ) → Contains nodes v ↔ ((v < n) × Leads edges u v)

-- those of each of the first n nodes
abbrev pub AreReached : List (List ℕ) → ℕ → (ℕ → List ℕ) → Type 0
AreReached edges n reached = (u : ℕ) → u < n → IsReachedFrom edges n u (reached u)

-- the weights of some nodes, all together
abbrev pub weight_of : List ℕ → List ℕ → ℕ
weight_of weights nodes = sum_by (λ v. slice_index_or weights v 0) nodes

-- for each node with a weight those of the nodes that it reaches, all together
abbrev pub weight_reached : List ℕ → (ℕ → List ℕ) → ℕ
weight_reached weights reached = sum_by (λ u. weight_of weights (reached u)) (range_with_len 0 (length weights))
