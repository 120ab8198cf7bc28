-- Names of recording rules, of which some are marked: how contracts see the code. It defines nothing.
use Rattle.std.specs.Prelude.{◌≡◌, ◌<◌, ◌⊎◌, ◌↔◌, ℕ, Bool, true, false, List, Option, Some, None, length, replicate, slice_index_or}
use Rattle.std.specs.List.{Contains}
use Rattle.lf_ast.specs.Labels.{Bytes}
use Rattle.lf_ast.specs.Rules.{RuleTree}
use Rattle.lf_semantics.specs.Environments.{recorded_names}
use Rattle.lf_semantics.specs.Listing.{place}

pub record NameMarks : Type 0 where
  pub names : List Bytes
  pub marked : List Bool
  pub without_name : Bool

-- whether a selector is marked, by the name that it says
abbrev pub has_mark : NameMarks → Option Bytes → Bool
has_mark m (Some name) = slice_index_or m.marked (place m.names name) false
has_mark m None = m.without_name

-- the names are those that the rules record, and none is marked
pub record AreUnmarked (rules : List RuleTree) (m : NameMarks) : Type 0 where
  pub names : m.names ≡ recorded_names rules
  pub marked : m.marked ≡ replicate (length m.names) false
  pub without_name : m.without_name ≡ false

-- the names at these places are marked beside those that were; and so are selectors that say none, if there is such a place
pub record Marks (places : List ℕ) (old new : NameMarks) : Type 0 where
  pub names : new.names ≡ old.names
  pub count : length new.marked ≡ length old.marked
  pub marked : (p : ℕ) → p < length old.marked → (slice_index_or new.marked p false ≡ true) ↔ ((slice_index_or old.marked p false ≡ true) ⊎ Contains places p)
  pub without_name : (new.without_name ≡ true) ↔ ((old.without_name ≡ true) ⊎ ((p : ℕ) × Contains places p))
