-- Offsets one after the other. It defines nothing of scalars.
use Rattle.std.specs.Prelude.{ℕ, zero, suc, List, [], ◌∷◌}

-- so many offsets from one on
abbrev pub offsets_from : ℕ → ℕ → List ℕ
offsets_from at zero = []
offsets_from at (suc n) = at ∷ offsets_from (suc at) n
