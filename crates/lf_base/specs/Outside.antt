-- What an answer of the outside says of the bytes and of the counts of faults.
use Rattle.std.specs.Prelude.{◌≡◌, ℕ, ◌<◌, ◌↔◌, List, [], ◌++◌, take, drop, Option, Some, None, Result, Ok, Err, OnErr, OnOk}

-- on Ok the count of faults is as before, and an error comes only where it rose
pub record Faults {T E : Type 0} (before now : ℕ) (result : Result T E) : Type 0 where
  pub failed : OnErr result (before < now)
  pub kept : OnOk result (now ≡ before)

-- where the bytes left are told, a read of n bytes gives the next n of them; it gives none exactly at the end
abbrev pub ReadsBytes : Option (List ℕ) → Option (List ℕ) → List ℕ → ℕ → Type 0
ReadsBytes None now buffer n = Unit {0}
ReadsBytes (Some rest) now buffer n = (take n buffer ≡ take n rest) × (now ≡ Some (drop n rest)) × ((n ≡ 0) ↔ (rest ≡ []))

-- where the bytes taken are told, a write adds a front of the piece, and none where it failed
abbrev pub Takes : {E : Type 0} → Option (List ℕ) → Option (List ℕ) → List ℕ → Result ℕ E → Type 0
Takes None now piece result = Unit {0}
Takes (Some before) now piece (Ok n) = now ≡ Some (before ++ take n piece)
Takes (Some before) now piece (Err e) = now ≡ Some before
