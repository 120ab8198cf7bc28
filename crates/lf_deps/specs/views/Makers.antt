-- The numbers of the rules that record a name, one rule after another.
use Rattle.std.specs.Prelude.{ℕ, cond, List, [], ◌∷◌, ◌++◌, length, nat_lt}
use Rattle.lf_ast.specs.Labels.{Bytes}
use Rattle.lf_graph.specs.views.Buckets.{put_at}
use Rattle.lf_semantics.specs.Listing.{place}

-- the numbers for each name, with an empty list behind them where a name is new
abbrev pub with_room : List Bytes → List (List ℕ) → Bytes → List (List ℕ)
with_room names makers name = cond (nat_lt (place names name) (length names)) makers (makers ++ [] ∷ [])

-- a number goes behind those of a name
abbrev pub with_maker : List Bytes → List (List ℕ) → Bytes → ℕ → List (List ℕ)
with_maker names makers name number = put_at (with_room names makers name) (place names name) number
