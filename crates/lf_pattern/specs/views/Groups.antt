-- The texts of the groups of a match, by what `regex` lends of it (`Captures`). Only private functions cite these words; what a caller has to believe of groups is
-- `IsGroupText`.
use Rattle.std.specs.Prelude.{◌≡◌, ◌≤◌, ◌==◌, ℕ, List, [], Option, Some, None, if◌then◌else◌}
use Rattle.regex.specs.Replace.{bytes_of}
use Rattle.regex.specs.Strings.{captures_span, captures_haystack}
use Rattle.regex.specs.declared.string.captures.Captures.{Captures}
use Rattle.lf_pattern.specs.reading.Replacement.{greatest}

-- the text of group n, or nothing where it took no part
abbrev pub captured_text : Captures → ℕ → List ℕ
captured_text c n = bytes_of (captures_haystack c) (captures_span c n)

-- group 0 is the whole value, and each other one is that of the captures
abbrev pub group_of_match : List ℕ → Captures → ℕ → List ℕ
group_of_match value c n = if n == 0 then value else captured_text c n

-- where there is an answer, each group with the greatest number or a greater one is empty
abbrev pub IsFew : Option (List ℕ) → (ℕ → List ℕ) → Type 0
IsFew None group = Unit {0}
IsFew (Some text) group = (n : ℕ) → greatest ≤ n → group n ≡ []
