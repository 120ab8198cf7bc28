-- What line breaks become where lines are folded.
use Rattle.std.specs.Prelude.{ℕ, zero, suc, List, [], ◌∷◌, Bool, ◌&&◌, if◌then◌else◌}
use Rattle.std.specs.List.{list_all}
use Rattle.lf_scalar.specs.Cells.{Cell, cell}

-- so many line feeds, each with the offset of one line break
abbrev pub feeds : ℕ → ℕ → List Cell
feeds zero at = []
feeds (suc k) at = cell 10 at ∷ feeds k at

-- the line break at an offset with k blank lines behind it: one space if k is 0, else k line feeds
abbrev pub fold : ℕ → ℕ → List Cell
fold at zero = cell 32 at ∷ []
fold at (suc k) = feeds (suc k) at

-- without the last elements, as many as pass a test
abbrev pub trimmed : {X : Type 0} → (X → Bool) → List X → List X
trimmed passes [] = []
trimmed passes (x ∷ xs) = if passes x && list_all passes xs then [] else x ∷ trimmed passes xs
