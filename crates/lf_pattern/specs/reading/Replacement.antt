-- A way of reading plain replacements, from left to right. It defines nothing: a law says that it finds the pieces of `ReadsReplacement`, each number of a group as large as
-- the machine's numbers go.
use Rattle.std.specs.Prelude.{ℕ, ◌+◌, ◌*◌, ◌-◌, ◌^◌, min, ◌==◌, nat_lt, List, [], ◌∷◌, if◌then◌else◌}
use Rattle.std.specs.Char.{digit_value}
use Rattle.lf_pattern.specs.declared.replacement.ReplacementPiece.{ReplacementPiece}
use Rattle.lf_pattern.specs.declared.replacement.ReplacementPiece.TheVariants.{Char, Group}
use Rattle.lf_pattern.specs.declared.replacement.ReplacementMode.{ReplacementMode}
use Rattle.lf_pattern.specs.declared.replacement.ReplacementMode.TheVariants.{Text, Dollar, Number, Braced}

abbrev pub greatest : ℕ
greatest = 2 ^ 64 - 1

-- the number with one more digit, or the greatest one
abbrev pub with_digit : ℕ → ℕ → ℕ
with_digit n c = min (n * 10 + digit_value c) greatest

-- the pieces of what is left, by what was read of the piece that is open
unfoldable pub pieces_of : ReplacementMode → List ℕ → List ReplacementPiece
pieces_of Text [] = []
pieces_of Dollar [] = []
pieces_of (Number n) [] = Group n ∷ []
pieces_of (Braced n) [] = []
pieces_of Text (c ∷ cs) = if c == 36 then pieces_of Dollar cs else Char c ∷ pieces_of Text cs
pieces_of Dollar (c ∷ cs) =
    if c == 36 then Char 36 ∷ pieces_of Text cs
    else if c == 123 then pieces_of (Braced 0) cs
    else if nat_lt (digit_value c) 10 then pieces_of (Number (digit_value c)) cs
    else pieces_of Text cs
pieces_of (Number n) (c ∷ cs) =
    if nat_lt (digit_value c) 10 then pieces_of (Number (with_digit n c)) cs
    else Group n ∷ (if c == 36 then pieces_of Dollar cs else Char c ∷ pieces_of Text cs)
pieces_of (Braced n) (c ∷ cs) =
    if nat_lt (digit_value c) 10 then pieces_of (Braced (with_digit n c)) cs
    else if c == 125 then Group n ∷ pieces_of Text cs
    else pieces_of Text cs

-- a piece whose number of a group is at most the greatest
abbrev pub bounded : ReplacementPiece → ReplacementPiece
bounded (Char c) = Char c
bounded (Group n) = Group (min n greatest)
