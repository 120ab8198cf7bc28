-- The numbers of the names that lists of selectors select: how contracts see the code. It defines nothing.
use Rattle.std.specs.Prelude.{◌≡◌, ℕ, ◌<◌, List, [], length, Option, slice_index_or}
use Rattle.lf_ast.specs.Labels.{Bytes}
use Rattle.lf_flow.specs.views.Reading.{AreSelected}

-- those of each list, in ascending order
pub record AreEachSelected (names : List Bytes) (selected : List (List (Option Bytes))) (all : List (List ℕ)) : Type 0 where
  pub count : length all ≡ length selected
  pub each : (number : ℕ) → number < length selected → AreSelected names (slice_index_or selected number []) (slice_index_or all number [])
