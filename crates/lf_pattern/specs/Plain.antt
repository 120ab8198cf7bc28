-- Plain patterns: literals joined by `|`, perhaps in one pair of parentheses. A pattern is a list of characters.
use Rattle.std.specs.Prelude.{◌≡◌, ℕ, Bool, true, false, ◌&&◌, not, ◌==◌, List, [], ◌∷◌, ◌++◌, map, encode_utf8_all, ◌⊎◌}
use Rattle.std.specs.List.{list_any}
use Rattle.std.specs.Char.{is_ascii_punctuation}
use Rattle.std.specs.Str.{chars}

-- one of `\.+*?()[]{}^$|`
unfoldable pub is_special : ℕ → Bool
is_special c = list_any (λ s. c == s) (92 ∷ 46 ∷ 43 ∷ 42 ∷ 63 ∷ 40 ∷ 41 ∷ 91 ∷ 93 ∷ 123 ∷ 125 ∷ 94 ∷ 36 ∷ 124 ∷ [])

-- ASCII punctuation other than `<` and `>`
unfoldable pub is_escapable : ℕ → Bool
is_escapable c = is_ascii_punctuation c && (not (c == 60) && not (c == 62))

-- `Joins cs values`: the characters are literals joined by `|`, which have these values. A backslash before a character that may be escaped gives that character,
-- and every other character of a literal gives itself.
pub data Joins : List ℕ → List (List ℕ) → Type 0 where
  end : Joins [] ([] ∷ [])
  bar : {cs v : List ℕ} {vs : List (List ℕ)} → Joins cs (v ∷ vs) → Joins (124 ∷ cs) ([] ∷ v ∷ vs)
  ordinary : {c : ℕ} {cs v : List ℕ} {vs : List (List ℕ)} → is_special c ≡ false → Joins cs (v ∷ vs) → Joins (c ∷ cs) ((c ∷ v) ∷ vs)
  escaped : {c : ℕ} {cs v : List ℕ} {vs : List (List ℕ)} → is_escapable c ≡ true → Joins cs (v ∷ vs) → Joins (92 ∷ c ∷ cs) ((c ∷ v) ∷ vs)

-- such a list in one pair `( )`, which is a group
abbrev pub IsInPair : List ℕ → List (List ℕ) → Type 0
IsInPair cs vs = (inner : List ℕ) × (cs ≡ 40 ∷ inner ++ 41 ∷ []) × Joins inner vs

-- such a list alone, or in one pair `( )` or `(?: )`
abbrev pub IsPlainList : List ℕ → List (List ℕ) → Type 0
IsPlainList cs vs =
    Joins cs vs
    ⊎ (IsInPair cs vs
    ⊎ ((inner : List ℕ) × (cs ≡ 40 ∷ 63 ∷ 58 ∷ inner ++ 41 ∷ []) × Joins inner vs))

-- a text is a plain pattern of these alternatives, as UTF-8
abbrev pub HasAlternatives : List ℕ → List (List ℕ) → Type 0
HasAlternatives text alternatives =
    (vs : List (List ℕ)) × IsPlainList (chars text) vs × (alternatives ≡ map encode_utf8_all vs)

-- a text is a plain pattern
abbrev pub IsPlainPattern : List ℕ → Type 0
IsPlainPattern text = (alternatives : List (List ℕ)) × HasAlternatives text alternatives

-- a text is a plain pattern with a group: it stands in one pair `( )`
abbrev pub HasGroup : List ℕ → Type 0
HasGroup text = (vs : List (List ℕ)) × IsInPair (chars text) vs
