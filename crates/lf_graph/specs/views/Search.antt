-- What a search along edges has met, and which edges it has to follow yet: how contracts see the code. It defines nothing.
use Rattle.std.specs.Prelude.{◌≡◌, ◌⊎◌, ℕ, ◌<◌, ◌≤◌, ◌+◌, ◌-◌, List, [], ◌∷◌, length, map, slice_index_or, take}
use Rattle.std.specs.List.{Contains}
use Rattle.lf_laws.specs.Ascending.{AreAscending}
use Rattle.lf_graph.specs.Paths.{Leads, after}
use Rattle.lf_graph.specs.declared.search.Edge.{Edge}
use Rattle.lf_graph.specs.declared.search.NodeState.{NodeState}
use Rattle.lf_graph.specs.declared.search.NodeState.TheVariants.{Unmet, Open, Closed}
use Rattle.lf_graph.specs.declared.search.Search.{Search}

-- what is known of a node
abbrev pub state_of : Search → ℕ → NodeState
state_of s u = slice_index_or s.nodes.items u Unmet

-- the open node at a place
abbrev pub open_at : Search → ℕ → ℕ
open_at s p = slice_index_or s.open.items p 0

-- the place at which the last part begins
abbrev pub last_part : Search → ℕ
last_part s = slice_index_or s.parts.items (length s.parts.items - 1) 0

-- the second place isn't in an earlier part than the first
abbrev pub IsLater : List ℕ → ℕ → ℕ → Type 0
IsLater parts p q = (b : ℕ) → Contains parts b → b ≤ p → b ≤ q

-- the node is closed, or open and not in an earlier part than the place
abbrev pub IsFollowed : Search → ℕ → ℕ → Type 0
IsFollowed s p v = ((c : ℕ) × (state_of s v ≡ Closed c)) ⊎ ((q : ℕ) × (state_of s v ≡ Open q) × IsLater s.parts.items p q)

-- the edges from a place
abbrev pub edges_from : ℕ → List ℕ → List Edge
edges_from p nodes = map (λ (v : ℕ). record { «from» = p; to = v }) nodes

-- the places of open nodes, and the open nodes at them
pub record AreOpen (edges : List (List ℕ)) (s : Search) : Type 0 where
  pub nodes : length s.nodes.items ≡ length edges
  pub known : (p : ℕ) → p < length s.open.items → state_of s (open_at s p) ≡ Open p
  pub places : (u p : ℕ) → state_of s u ≡ Open p → (p < length s.open.items) × (open_at s p ≡ u)

-- the parts of the open nodes: the first begins at the first place, and each leads to itself and to later ones
pub record AreParts (edges : List (List ℕ)) (s : Search) : Type 0 where
  pub first : 0 < length s.open.items → Contains s.parts.items 0
  pub within : (b : ℕ) → Contains s.parts.items b → b < length s.open.items
  pub rise : AreAscending s.parts.items
  pub leads : (p q : ℕ) → p < length s.open.items → q < length s.open.items → IsLater s.parts.items p q → Leads edges (open_at s p) (open_at s q)

-- the place from which an edge of a list comes, and the node to which it leads
abbrev pub from_at : List Edge → ℕ → ℕ
from_at due i = (slice_index_or due i (record { «from» = 0; to = 0 })).«from»

abbrev pub to_at : List Edge → ℕ → ℕ
to_at due i = (slice_index_or due i (record { «from» = 0; to = 0 })).to

-- the edges that are due, in the order of their places; each other edge of an open node is followed, but for those to nodes set aside
pub record AreDue (edges : List (List ℕ)) (s : Search) (aside : List ℕ) : Type 0 where
  pub edge : (i : ℕ) → i < length s.due.items → (from_at s.due.items i < length s.open.items) × Contains (after edges (open_at s (from_at s.due.items i))) (to_at s.due.items i)
  pub rise : (i j : ℕ) → i < j → j < length s.due.items → from_at s.due.items i ≤ from_at s.due.items j
  pub followed : (p v : ℕ) → p < length s.open.items → Contains (after edges (open_at s p)) v →
      Contains aside v ⊎ (((i : ℕ) × (i < length s.due.items) × (from_at s.due.items i ≡ p) × (to_at s.due.items i ≡ v)) ⊎ IsFollowed s p v)

-- the closed components
pub record AreClosed (edges : List (List ℕ)) (s : Search) : Type 0 where
  pub below : (u c : ℕ) → state_of s u ≡ Closed c → c < s.closed
  pub together : (u v c : ℕ) → state_of s u ≡ Closed c → state_of s v ≡ Closed c → Leads edges u v
  pub down : (u v c : ℕ) → state_of s u ≡ Closed c → Contains (after edges u) v → (d : ℕ) × (state_of s v ≡ Closed d) × (d ≤ c)

-- a search along the edges of a graph; nodes set aside are to be met next
pub record IsSearch (edges : List (List ℕ)) (s : Search) (aside : List ℕ) : Type 0 where
  pub open_nodes : AreOpen edges s
  pub parts : AreParts edges s
  pub due : AreDue edges s aside
  pub closed : AreClosed edges s

-- each open node leads to the node
abbrev pub AllLead : List (List ℕ) → Search → ℕ → Type 0
AllLead edges s v = (p : ℕ) → p < length s.open.items → Leads edges (open_at s p) v

-- the last edge that is due isn't one of the last part, so that none is
abbrev pub NoneDue : Search → Type 0
NoneDue s = 0 < length s.due.items → from_at s.due.items (length s.due.items - 1) < last_part s

-- the last edge that is due is one of the last part, and is taken out; it leads to the node
pub record TakesDue (s later : Search) (node : ℕ) : Type 0 where
  pub same : later ≡ record s { due = later.due }
  pub some : 0 < length s.due.items
  pub rest : later.due.items ≡ take (length s.due.items - 1) s.due.items
  pub last : last_part s ≤ from_at s.due.items (length s.due.items - 1)
  pub to : to_at s.due.items (length s.due.items - 1) ≡ node

-- these nodes are closed, and nothing else is changed
pub record IsClosing (number : ℕ) (members : List ℕ) (nodes later : List NodeState) : Type 0 where
  pub count : length later ≡ length nodes
  pub closed : (u : ℕ) → Contains members u → slice_index_or later u Unmet ≡ Closed number
  pub kept : (u : ℕ) → (Contains members u → ⊥) → slice_index_or later u Unmet ≡ slice_index_or nodes u Unmet

-- the node is met
abbrev pub weight : NodeState → ℕ
weight Unmet = 1
weight (Open p) = 0
weight (Closed c) = 0

abbrev pub IsMet : Search → ℕ → Type 0
IsMet s u = weight (state_of s u) ≡ 0

-- the number of a closed node
abbrev pub number_in : NodeState → ℕ
number_in (Closed c) = c
number_in (Open p) = 0
number_in Unmet = 0

-- how many edges and parts there are yet to come of nodes that aren't met
abbrev pub to_come : List NodeState → List (List ℕ) → ℕ
to_come [] lists = 0
to_come (node ∷ nodes) [] = 0
to_come (Unmet ∷ nodes) (xs ∷ lists) = length xs + 2 + to_come nodes lists
to_come (Open p ∷ nodes) (xs ∷ lists) = to_come nodes lists
to_come (Closed c ∷ nodes) (xs ∷ lists) = to_come nodes lists

-- what is left to be done
abbrev pub work : List (List ℕ) → Search → ℕ
work edges s = to_come s.nodes.items edges + length s.due.items + length s.parts.items
