-- When a pattern matches a value, and the texts of the groups of the match.
--
-- `regex` reads a pattern p that isn't plain as `^(?:p)$`, so the match that it finds is the whole value; but a pattern such as `a)|(b` breaks out of the parentheses,
-- and its match may be a part of the value.
use Rattle.std.specs.Prelude.{◌≡◌, ◌⊎◌, ℕ, Bool, true, List, [], Contains, is_some, ◌||◌}
use Rattle.std.specs.Option.{option_map_or}
use Rattle.std.specs.List.{list_any}
use Rattle.std.specs.Str.{bytes_eq}
use Rattle.lf_pattern.specs.Plain.{HasAlternatives, HasGroup, IsPlainPattern}
use Rattle.lf_pattern.specs.Read.{reading, finds, found_group}
use Rattle.lf_pattern.specs.Scan.{alternatives_of}

-- A plain pattern matches exactly its alternatives, and any other where regex finds a match.
abbrev pub Matches : List ℕ → List ℕ → Type 0
Matches p value =
    ((alternatives : List (List ℕ)) × HasAlternatives p alternatives × Contains alternatives value)
    ⊎ (((alternatives : List (List ℕ)) → HasAlternatives p alternatives → ⊥) × (finds p value ≡ true))

-- the pattern is plain, or regex's grammar reads it
abbrev pub IsRead : List ℕ → Type 0
IsRead p = IsPlainPattern p ⊎ (is_some (reading p) ≡ true)

-- Of a plain pattern, group 0 is the whole value, and so is group 1 where the pattern stands in one pair `( )`.
abbrev pub IsWhole : List ℕ → ℕ → Type 0
IsWhole p n = (n ≡ 0) ⊎ (HasGroup p × (n ≡ 1))

-- the text of group n of a plain pattern: the value, or nothing where there is no such group
abbrev pub IsPlainGroup : List ℕ → List ℕ → ℕ → List ℕ → Type 0
IsPlainGroup p value n text = (IsWhole p n × (text ≡ value)) ⊎ ((IsWhole p n → ⊥) × (text ≡ []))

-- the text of group n where the pattern matches the value: of a plain pattern as above, and of any other that of the match which regex's definition finds. It is
-- empty where there is no such group and where it took no part.
abbrev pub IsGroupText : List ℕ → List ℕ → ℕ → List ℕ → Type 0
IsGroupText p value n text =
    (IsPlainPattern p × IsPlainGroup p value n text)
    ⊎ ((IsPlainPattern p → ⊥) × (text ≡ found_group p value n))

-- ---- The same as functions, for the rows and the universe of lf_semantics, which are values that are computed of rules. Laws in proofs/ (MatchLaws.antt, GroupLaws.antt) say
-- that they agree with the relations above, both ways.

-- whether the pattern matches the value
abbrev pub matches : List ℕ → List ℕ → Bool
matches p value = option_map_or (λ alternatives. list_any (λ a. bytes_eq a value) alternatives) (alternatives_of p) (finds p value)

-- whether the pattern is plain, or regex's grammar reads it
abbrev pub is_read : List ℕ → Bool
is_read p = is_some (alternatives_of p) || is_some (reading p)
