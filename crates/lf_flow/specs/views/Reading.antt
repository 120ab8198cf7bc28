-- The numbers of the names that selectors select: how contracts see the code. It defines nothing.
use Rattle.std.specs.Prelude.{◌↔◌, ℕ, List, [], ◌∷◌, length, Option, Some, None, cond, nat_lt}
use Rattle.std.specs.List.{Contains, flat_map, range_with_len}
use Rattle.lf_ast.specs.Labels.{Bytes}
use Rattle.lf_laws.specs.Ascending.{AreAscending}
use Rattle.lf_semantics.specs.Listing.{place}

-- that of its name, if it is recorded, or those of all
abbrev pub numbers_selected : List Bytes → Option Bytes → List ℕ
numbers_selected names (Some name) = cond (nat_lt (place names name) (length names)) (place names name ∷ []) []
numbers_selected names None = range_with_len 0 (length names)

-- those of some selectors, in ascending order
pub record AreSelected (names : List Bytes) (found : List (Option Bytes)) (numbers : List ℕ) : Type 0 where
  pub ascend : AreAscending numbers
  pub same : (k : ℕ) → Contains numbers k ↔ Contains (flat_map (numbers_selected names) found) k
