-- The first of some bytes, and those behind it.
use Rattle.std.proofs.Common.{ℕ, List, [], ◌∷◌}

abbrev pub first : List ℕ → ℕ
first [] = 0
first (b ∷ bs) = b

abbrev pub tail_of : List ℕ → List ℕ
tail_of [] = []
tail_of (b ∷ bs) = bs
