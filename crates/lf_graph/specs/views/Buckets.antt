-- Lists of numbers, by number.
use Rattle.std.specs.Prelude.{ℕ, List, [], ◌∷◌, ◌++◌, slice_index_or, slice_set}

-- an element goes behind those in the bucket of a number
abbrev pub put_at : List (List ℕ) → ℕ → ℕ → List (List ℕ)
put_at buckets number element = slice_set buckets number (slice_index_or buckets number [] ++ element ∷ [])
