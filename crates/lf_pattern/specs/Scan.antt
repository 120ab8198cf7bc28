-- The alternatives of a plain pattern as a function, from left to right. The rows and the universe of lf_semantics are values that are computed of rules, and go by it; so it is a
-- definition. `HasAlternatives` of Plain.antt says the same as a relation, and laws in proofs/PlainLaws.antt say that the two agree, both ways.
use Rattle.std.specs.Prelude.{ℕ, ◌-◌, Bool, true, false, ◌&&◌, ◌==◌, nat_lt, List, [], ◌∷◌, ◌++◌, length, take, drop, Option, Some, None, if◌then◌else◌, encode_utf8, slice_index}
use Rattle.std.specs.Str.{chars}
use Rattle.lf_pattern.specs.Plain.{is_special, is_escapable}

-- the values of the alternatives so far, the value of the one that is being read, and whether a backslash came last
unfoldable pub scanned : List (List ℕ) → List ℕ → Bool → List ℕ → Option (List (List ℕ))
scanned done now true [] = None
scanned done now false [] = Some (done ++ now ∷ [])
scanned done now true (c ∷ cs) = if is_escapable c then scanned done (now ++ encode_utf8 c) false cs else None
scanned done now false (c ∷ cs) =
    if c == 92 then scanned done now true cs
    else if c == 124 then scanned (done ++ now ∷ []) [] false cs
    else if is_special c then None
    else scanned done (now ++ encode_utf8 c) false cs

-- begins with `(` and ends with `)`
abbrev pub has_pair : List ℕ → Bool
has_pair cs = nat_lt 1 (length cs) && (slice_index cs 0 == 40 && slice_index cs (length cs - 1) == 41)

-- has `?:` behind its first character, and a character behind that
abbrev pub is_quiet : List ℕ → Bool
is_quiet cs = nat_lt 3 (length cs) && (slice_index cs 1 == 63 && slice_index cs 2 == 58)

-- what stands in the pair of parentheses
abbrev pub inside : List ℕ → List ℕ
inside cs =
    if has_pair cs then drop (if is_quiet cs then 3 else 1) (take (length cs - 1) cs) else cs

-- the alternatives of a plain pattern, by its text
abbrev pub alternatives_of : List ℕ → Option (List (List ℕ))
alternatives_of text = scanned [] [] false (inside (chars text))
