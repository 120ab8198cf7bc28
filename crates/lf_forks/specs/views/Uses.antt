-- The graph of what is selected where: how contracts see the code. It defines nothing. A recorded name is a node, by its place among the recorded names, and selectors
-- that say no name are the node behind these. Edges lead from a node to the names whose rules select it.
use Rattle.std.specs.Prelude.{◌≡◌, ◌+◌, ◌<◌, ◌⊎◌, ◌↔◌, ℕ, Bool, true, false, cond, List, [], ◌∷◌, length, slice_index_or}
use Rattle.std.specs.List.{Contains, flat_map}
use Rattle.lf_ast.specs.Labels.{Bytes}
use Rattle.lf_ast.specs.Rules.{RuleTree}
use Rattle.lf_deps.specs.Reading.{selectors}
use Rattle.lf_deps.specs.views.Links.{source_of}
use Rattle.lf_graph.specs.Paths.{after}
use Rattle.lf_semantics.specs.Listing.{place}
use Rattle.lf_trials.specs.Reached.{has_several_rules}
use Rattle.lf_semantics.specs.Environments.{recorded_names}
use Rattle.lf_trials.specs.Forks.{has_passing}
use Rattle.lf_forks.specs.views.NameMarks.{NameMarks, has_mark}

-- the rule records the name of node u, and selects node v
abbrev pub IsUse : List Bytes → RuleTree → ℕ → ℕ → Type 0
IsUse names r v u = (r.alert ≡ false) × (place names r.name ≡ u) × Contains (flat_map (source_of names) (selectors r.expr)) v

-- to each node, the names whose rules select it
pub record AreUses (rules : List RuleTree) (names : List Bytes) (uses : List (List ℕ)) : Type 0 where
  pub count : length uses ≡ length names + 1
  pub members : (v u : ℕ) → Contains (after uses v) u ↔ ((r : RuleTree) × Contains rules r × IsUse names r v u)

-- a number is put into the lists of some nodes, if it is to be
pub record Puts (put : Bool) (nodes : List ℕ) (number : ℕ) (old new : List (List ℕ)) : Type 0 where
  pub count : length new ≡ length old
  pub members : (v u : ℕ) → Contains (after new v) u ↔ (Contains (after old v) u ⊎ ((put ≡ true) × Contains nodes v × (number ≡ u)))

-- what is marked are the recorded names that several rules record, and no selector without a name
pub record AreOwn (rules : List RuleTree) (m : NameMarks) : Type 0 where
  pub names : m.names ≡ recorded_names rules
  pub count : length m.marked ≡ length m.names
  pub marked : (k : ℕ) → k < length m.names → slice_index_or m.marked k false ≡ has_several_rules rules (slice_index_or m.names k [])
  pub without_name : m.without_name ≡ false

-- the nodes of a rule that records a name and has a fork in its expression: its name, and selectors that say none
abbrev pub fork_nodes : NameMarks → RuleTree → List ℕ
fork_nodes m r = cond r.alert [] (cond (has_passing (has_mark m) r.expr) (place m.names r.name ∷ length m.names ∷ []) [])
