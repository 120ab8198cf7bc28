-- The shape of a pattern, and its low and its high sample: two texts, each made of choices that the pattern leaves. A pattern is a list of characters, and a sample a
-- text in UTF-8. What a rule leaves of the characters is its last argument.
use Rattle.std.specs.Prelude.{◌≡◌, ◌≢◌, ℕ, zero, suc, ◌≤◌, max, Bool, true, false, ◌==◌, ◌||◌, List, [], ◌∷◌, ◌++◌, All, encode_utf8, if◌then◌else◌}
use Rattle.std.specs.List.{list_any}
use Rattle.std.specs.Str.Parse.{IsNumeral, digits_value}
use Rattle.lf_pattern.specs.Plain.{is_special, is_escapable}

pub record Samples : Type 0 where
  pub low : List ℕ
  pub high : List ℕ

-- both are this text
abbrev pub same : List ℕ → Samples
same text = record { low = text; high = text }

-- one behind the other
abbrev pub followed : Samples → Samples → Samples
followed p q = record { low = p.low ++ q.low; high = p.high ++ q.high }

-- a text so many times
abbrev pub times : ℕ → List ℕ → List ℕ
times zero text = []
times (suc n) text = times n text ++ text

-- Samples take the least count, but the high one takes one where the least is 0.
abbrev pub counted : ℕ → Samples → Samples
counted least p = record { low = times least p.low; high = times (max 1 least) p.high }

-- the low sample takes the first of alternatives, and the high one the last
abbrev pub chosen : Samples → Samples → Samples
chosen first last = record { low = first.low; high = last.high }

-- the last of an element and those behind it
abbrev pub last_of : ℕ → List ℕ → ℕ
last_of c [] = c
last_of c (d ∷ more) = last_of d more

-- a class that holds a backslash or a `[`
abbrev pub is_opaque : ℕ → List ℕ → Bool
is_opaque first more = list_any (λ m. m == 92 || m == 91) (first ∷ more)

-- the samples of what isn't told by members
abbrev pub unknown : Samples
unknown = record { low = 48 ∷ []; high = 97 ∷ [] }

-- of a class, by its first member and those behind it
abbrev pub class_samples : ℕ → List ℕ → Samples
class_samples first more =
    if is_opaque first more then unknown
    else record { low = encode_utf8 first; high = encode_utf8 (last_of first more) }

-- the digits of a count's least number
abbrev pub IsLeastCount : List ℕ → ℕ → Type 0
IsLeastCount digits n = IsNumeral 10 digits × (n ≡ digits_value 10 digits) × (n ≤ 64)

-- `Count cs least rest`: one of `*`, `+`, `?`, `{n}`, `{n,}` and `{n,m}`
pub data Count : List ℕ → ℕ → List ℕ → Type 0 where
  star : {rest : List ℕ} → Count (42 ∷ rest) 0 rest
  plus : {rest : List ℕ} → Count (43 ∷ rest) 1 rest
  optional : {rest : List ℕ} → Count (63 ∷ rest) 0 rest
  exactly : (digits : List ℕ) {rest : List ℕ} {n : ℕ} → IsLeastCount digits n → Count (123 ∷ digits ++ 125 ∷ rest) n rest
  at_least : (digits : List ℕ) {rest : List ℕ} {n : ℕ} → IsLeastCount digits n → Count (123 ∷ digits ++ 44 ∷ 125 ∷ rest) n rest
  between : (digits most : List ℕ) {rest : List ℕ} {n : ℕ} → IsLeastCount digits n → IsNumeral 10 most → Count (123 ∷ digits ++ (44 ∷ most ++ 125 ∷ rest)) n rest

-- `Lazily cs rest`: perhaps a `?`
pub data Lazily : List ℕ → List ℕ → Type 0 where
  greedy : {rest : List ℕ} → Lazily rest rest
  lazy : {rest : List ℕ} → Lazily (63 ∷ rest) rest

mutual
  -- alternatives joined by `|`
  pub data Alternatives : List ℕ → Samples → List ℕ → Type 0 where
    one : {cs rest : List ℕ} {p : Samples} → Branch cs p rest → Alternatives cs p rest
    more : {cs us rest : List ℕ} {p q : Samples} → Branch cs p (124 ∷ us) → Alternatives us q rest → Alternatives cs (chosen p q) rest

  -- a branch: quantified atoms, one behind the other
  pub data Branch : List ℕ → Samples → List ℕ → Type 0 where
    nothing : {rest : List ℕ} → Branch rest (same []) rest
    next : {cs us rest : List ℕ} {p q : Samples} → QuantifiedAtom cs p us → Branch us q rest → Branch cs (followed p q) rest

  -- an atom with at most one count
  pub data QuantifiedAtom : List ℕ → Samples → List ℕ → Type 0 where
    once : {cs rest : List ℕ} {p : Samples} → Atom cs p rest → QuantifiedAtom cs p rest
    often : {cs us vs rest : List ℕ} {p : Samples} {least : ℕ} → Atom cs p us → Count us least vs → Lazily vs rest → QuantifiedAtom cs (counted least p) rest

  pub data Atom : List ℕ → Samples → List ℕ → Type 0 where
    ordinary : {c : ℕ} {rest : List ℕ} → is_special c ≡ false → Atom (c ∷ rest) (same (encode_utf8 c)) rest
    any : {rest : List ℕ} → Atom (46 ∷ rest) unknown rest
    -- `^` and `$`
    begin : {rest : List ℕ} → Atom (94 ∷ rest) (same []) rest
    end : {rest : List ℕ} → Atom (36 ∷ rest) (same []) rest
    -- `\d`, `\w` and `\s`
    digit : {rest : List ℕ} → Atom (92 ∷ 100 ∷ rest) (same (48 ∷ [])) rest
    word : {rest : List ℕ} → Atom (92 ∷ 119 ∷ rest) (same (97 ∷ [])) rest
    space : {rest : List ℕ} → Atom (92 ∷ 115 ∷ rest) (same (32 ∷ [])) rest
    escaped : {c : ℕ} {rest : List ℕ} → is_escapable c ≡ true → Atom (92 ∷ c ∷ rest) (same (encode_utf8 c)) rest
    -- a class, which ends at the first `]` behind its first member, and a negated one: a `^` that begins a class is no member
    class : (first : ℕ) (members : List ℕ) {rest : List ℕ} → first ≢ 94 → All (λ m. m ≢ 93) members → Atom (91 ∷ first ∷ members ++ 93 ∷ rest) (class_samples first members) rest
    negated : (first : ℕ) (members : List ℕ) {rest : List ℕ} → All (λ m. m ≢ 93) members → Atom (91 ∷ 94 ∷ first ∷ members ++ 93 ∷ rest) unknown rest
    -- `(..)` and `(?:..)`
    group : {cs rest : List ℕ} {p : Samples} → Alternatives cs p (41 ∷ rest) → Atom (40 ∷ cs) p rest
    quiet : {cs rest : List ℕ} {p : Samples} → Alternatives cs p (41 ∷ rest) → Atom (40 ∷ 63 ∷ 58 ∷ cs) p rest

-- the whole of the characters has the shape, with these samples
abbrev pub HasSamples : List ℕ → Samples → Type 0
HasSamples cs p = Alternatives cs p []
