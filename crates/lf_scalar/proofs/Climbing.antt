-- Offsets that never fall, by recursion.
use Rattle.std.proofs.Common.{◌≡◌, ℕ, zero, suc, ◌+◌, ◌<◌, ◌≤◌, List, [], ◌∷◌, length, get_or, arith}
use Rattle.std.specs.List.Sorted.{IsNonDecreasing}
use Rattle.lf_base.specs.declared.place.Span.{Span}
use Rattle.lf_scalar.specs.Offsets.{AreOffsets}

-- offsets from one on and up to another, none less than the one before it
abbrev pub Climbs : ℕ → List ℕ → ℕ → Type 0
Climbs low [] high = low ≤ high
Climbs low (at ∷ offsets) high = (low ≤ at) × Climbs at offsets high

climbs-at : (low high : ℕ) (xs : List ℕ) (j d : ℕ) → Climbs low xs high → j < length xs → (low ≤ get_or xs j d) × (get_or xs j d ≤ high)
climbs-at low high [] j d h lt = absurd (omega arith)
climbs-at low high (x ∷ []) zero d h lt = (h.0, h.1)
climbs-at low high (x ∷ []) (suc j) d h lt = absurd (omega arith)
climbs-at low high (x ∷ y ∷ xs) zero d h lt = let more = climbs-at x high (y ∷ xs) 0 d h.1 (omega arith) in (h.0, omega (arith, more.0, more.1))
climbs-at low high (x ∷ y ∷ xs) (suc j) d h lt = let more = climbs-at x high (y ∷ xs) j d h.1 (omega arith) in (omega (arith, h.0, more.0), more.1)

never-fall : (low high : ℕ) (xs : List ℕ) → Climbs low xs high → IsNonDecreasing xs
never-fall low high [] h i j d le lt = absurd (omega arith)
never-fall low high (x ∷ xs) h zero zero d le lt = omega arith
never-fall low high (x ∷ xs) h zero (suc j) d le lt = (climbs-at x high xs j d h.1 (omega arith)).0
never-fall low high (x ∷ xs) h (suc i) zero d le lt = absurd (omega arith)
never-fall low high (x ∷ xs) h (suc i) (suc j) d le lt = never-fall x high xs h.1 i j d (omega arith) (omega arith)

-- what climbs from the start of a place to its end are offsets
pub are-offsets : (text from : List ℕ) (place : Span) → length from ≡ length text + 1 → Climbs place.start from place.end → AreOffsets text from place
are-offsets text from place e h = (e, never-fall place.start place.end from h, (climbs-at place.start place.end from 0 0 h (omega (arith, e))).0, (climbs-at place.start place.end from (length text) 0 h (omega (arith, e))).1)
