-- Rows of bytes of a class.
use Rattle.std.specs.Prelude.{◌≡◌, ◌==◌, ℕ, List, [], ◌∷◌, Bool, true, false, not}
use Rattle.std.specs.List.{list_all}

-- Each byte is of a class.
abbrev pub Each : (ℕ → Bool) → List ℕ → Type 0
Each test bs = list_all test bs ≡ true

-- whether a text begins with a byte of a class
abbrev pub starts : (ℕ → Bool) → List ℕ → Bool
starts test [] = false
starts test (b ∷ rest) = test b

-- A row of bytes of a class ends here.
abbrev pub Stops : (ℕ → Bool) → List ℕ → Type 0
Stops test rest = starts test rest ≡ false

-- what stands between back quotes
abbrev pub is_no_back_quote : ℕ → Bool
is_no_back_quote b = not (b == 96)
