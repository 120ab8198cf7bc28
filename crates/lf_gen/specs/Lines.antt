-- Texts and their lines.
use Rattle.std.specs.Prelude.{◌≢◌, ℕ, ◌==◌, ◌-◌, List, [], ◌∷◌, drop, length, if◌then◌else◌}
use Rattle.std.specs.List.{AllByRecursion, concat}
use Rattle.lf_base.specs.Names.{Bytes}

-- no line holds a line feed
abbrev pub AreLines : List Bytes → Type 0
AreLines lines = AllByRecursion (λ line. AllByRecursion (λ b. b ≢ 10) line) lines

-- a byte before the first of some lines
abbrev pub begun : ℕ → List Bytes → List Bytes
begun b [] = (b ∷ []) ∷ []
begun b (line ∷ lines) = (b ∷ line) ∷ lines

-- the lines of a text, each with the line feed that ends it; the last one may have none
abbrev pub lines_of : Bytes → List Bytes
lines_of [] = []
lines_of (b ∷ bs) = if b == 10 then (b ∷ []) ∷ lines_of bs else begun b (lines_of bs)

-- the end of a text that holds so many of its lines, the last ones; the whole text where it has no more
abbrev pub last_lines : ℕ → Bytes → Bytes
last_lines count text = concat (drop (length (lines_of text) - count) (lines_of text))
