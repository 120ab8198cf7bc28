-- The markers between documents.
use Rattle.std.proofs.Common.{◌≡◌, ℕ, ◌<◌, false, List, [], ◌∷◌, length, refl, arith}
use Rattle.lf_scalar.specs.Cells.{cells}
use Rattle.lf_scalar.specs.Markers.{is_thrice}

-- fewer than three bytes are no byte three times
pub thrice-short : (b : ℕ) (xs : List ℕ) → length xs < 3 → (at : ℕ) → false ≡ is_thrice b (cells at xs)
thrice-short b [] lt at = refl
thrice-short b (x ∷ []) lt at = refl
thrice-short b (x ∷ y ∷ []) lt at = refl
thrice-short b (x ∷ y ∷ z ∷ xs) lt at = absurd (omega arith)
