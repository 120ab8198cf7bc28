-- How many selectors there are to try at most: how contracts see the code. It defines nothing.
use Rattle.std.specs.Prelude.{ℕ, ◌-◌, ◌^◌, List, min, Option, Some, None, slice_index_or}
use Rattle.std.specs.List.{sum_by}
use Rattle.lf_ast.specs.Labels.{Bytes}
use Rattle.lf_deps.specs.views.Index.{makers_of}
use Rattle.lf_deps.specs.views.Sources.{Sources}

-- what is told of a rule by its number, where something is told of each of the first rules
abbrev pub most_at : List ℕ → ℕ → ℕ
most_at each k = slice_index_or each k (2 ^ 64 - 1)

-- of the rules that a selector selects, all together
abbrev pub most_by : Sources → List ℕ → Option Bytes → ℕ
most_by s each None = 2 ^ 64 - 1
most_by s each (Some name) = min (sum_by (most_at each) (makers_of s name)) (2 ^ 64 - 1)
