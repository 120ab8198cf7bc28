-- Cells that are split at one of them.
use Rattle.std.specs.Prelude.{ℕ, ◌+◌, List, ◌∷◌, take, drop, get_or, Option, Some, None}
use Rattle.lf_scalar.specs.Cells.{Cell, cell, cells}

-- what stands before a cell, this cell, and what stands behind it
abbrev pub Split : Type 0
Split = List Cell × (Cell × List Cell)

-- the same with one cell more in front
abbrev pub behind_cell : Cell → Option Split → Option Split
behind_cell c None = None
behind_cell c (Some x) = Some (c ∷ x.0, x.1)

-- the split of some bytes, the first of them at an offset, at one of their places
abbrev pub split_of : ℕ → List ℕ → ℕ → Split
split_of at bytes k = (cells at (take k bytes), (cell (get_or bytes k 0) (at + k), cells (at + (k + 1)) (drop (k + 1) bytes)))
