-- The graph of rules and of the names that they record. The rules are nodes, by their numbers; behind them stand the names, by their places, and behind these the node of all names.
use Rattle.std.specs.Prelude.{ℕ, ◌+◌, cond, nat_lt, List, [], ◌∷◌, ◌++◌, length, map, Option, Some, None}
use Rattle.std.specs.List.{flat_map, range_with_len}
use Rattle.lf_ast.specs.Labels.{Bytes}
use Rattle.lf_semantics.specs.Listing.{place}
use Rattle.lf_deps.specs.views.Index.{makers_of}
use Rattle.lf_deps.specs.views.Sources.{Sources}

-- the node of what a selector selects, where those of names stand from a number on: none where its name isn't recorded
abbrev pub node_of : ℕ → List Bytes → Option Bytes → List ℕ
node_of first names None = (first + length names) ∷ []
node_of first names (Some name) = cond (nat_lt (place names name) (length names)) ((first + place names name) ∷ []) []

abbrev pub nodes_selected : ℕ → List Bytes → List (Option Bytes) → List ℕ
nodes_selected first names selected = flat_map (node_of first names) selected

-- those of all names
abbrev pub name_nodes : ℕ → ℕ → List ℕ
name_nodes first names = map (λ p. first + p) (range_with_len 0 names)

-- edges lead from a rule to what it selects, from a name to the rules that record it, and from the node of all names to each name
abbrev pub rule_edges : Sources → List (List ℕ)
rule_edges s = (map (nodes_selected (length s.selected) s.names) s.selected ++ map (makers_of s) s.names) ++ name_nodes (length s.selected) (length s.names) ∷ []
