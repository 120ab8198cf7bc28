-- The samples of a pattern.
use Rattle.std.specs.Prelude.{◌≡◌, ◌≢◌, ◌≤◌, ◌⊎◌, ℕ, List, [], ◌∷◌, length, if◌then◌else◌}
use Rattle.std.specs.Str.{chars, bytes_eq}
use Rattle.lf_pattern.specs.Matching.{Matches}
use Rattle.lf_pattern.specs.Shape.{Samples, HasSamples}

-- A sample is kept if it isn't empty, has at most 256 bytes and the pattern matches it.
abbrev pub IsKept : List ℕ → List ℕ → Type 0
IsKept p sample = (sample ≢ []) × (length sample ≤ 256) × Matches p sample

-- `AreKept p texts kept`: of the texts these are kept, in their order
pub data AreKept (p : List ℕ) : List (List ℕ) → List (List ℕ) → Type 0 where
  none : AreKept p [] []
  keep : {s : List ℕ} {texts kept : List (List ℕ)} → IsKept p s → AreKept p texts kept → AreKept p (s ∷ texts) (s ∷ kept)
  leave : {s : List ℕ} {texts kept : List (List ℕ)} → (IsKept p s → ⊥) → AreKept p texts kept → AreKept p (s ∷ texts) kept

-- the low one and the high one, or one where they are equal
abbrev pub candidates : Samples → List (List ℕ)
candidates s = if bytes_eq s.low s.high then s.low ∷ [] else s.low ∷ s.high ∷ []

-- A pattern of the shape has those of its low and its high sample that are kept, and a pattern outside the shape has none.
abbrev pub AreSamples : List ℕ → List (List ℕ) → Type 0
AreSamples p samples =
    ((s : Samples) × HasSamples (chars p) s × AreKept p (candidates s) samples)
    ⊎ (((s : Samples) → HasSamples (chars p) s → ⊥) × (samples ≡ []))
