-- Offsets one after the other.
use Rattle.std.proofs.Common.{◌≡◌, ℕ, zero, suc, ◌+◌, List, [], ◌∷◌, ◌++◌, length, refl, ap, arith, append_assoc, ◌∙◌}
use Rattle.lf_scalar.specs.Cells.{cells, offsets_of}
use Rattle.lf_scalar.specs.views.Ascending.{offsets_from}

pub offsets-push : (at n : ℕ) → offsets_from at n ++ (at + n) ∷ [] ≡ offsets_from at (suc n)
offsets-push at zero = let z : at + 0 ≡ at = omega arith in ap (λ (m : ℕ). m ∷ []) z
offsets-push at (suc n) = let z : at + suc n ≡ suc at + n = omega arith in ap (λ (m : ℕ). at ∷ (offsets_from (suc at) n ++ m ∷ [])) z ∙ ap (λ (xs : List ℕ). at ∷ xs) (offsets-push (suc at) n)

pub cells-offsets : (at : ℕ) (xs : List ℕ) → offsets_of (cells at xs) ≡ offsets_from at (length xs)
cells-offsets at [] = refl
cells-offsets at (x ∷ xs) = ap (λ (ys : List ℕ). at ∷ ys) (cells-offsets (suc at) xs)

pub offsets-length : (at n : ℕ) → length (offsets_from at n) ≡ n
offsets-length at zero = refl
offsets-length at (suc n) = ap suc (offsets-length (suc at) n)

-- one offset more, behind some that stood before
pub offsets-more : (old now : List ℕ) (at i : ℕ) → now ≡ old ++ offsets_from at i → now ++ (at + i) ∷ [] ≡ old ++ offsets_from at (i + 1)
offsets-more old now at i e =
    let n : suc i ≡ i + 1 = omega arith in
    ap (λ (xs : List ℕ). xs ++ (at + i) ∷ []) e ∙ append_assoc old (offsets_from at i) ((at + i) ∷ []) ∙ ap (λ (xs : List ℕ). old ++ xs) (offsets-push at i ∙ ap (offsets_from at) n)
