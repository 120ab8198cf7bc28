-- Two lists side by side, and the places of a list that grows.
use Rattle.std.proofs.Common.{◌≡◌, ◌⊎◌, inl, inr, ℕ, zero, suc, ◌<◌, List, [], ◌∷◌, ◌++◌, length, get_or, Some, refl, ap, arith}
use Rattle.std.specs.List.{AllZip}
use Rattle.std.specs.Prelude.{slice_get}

module _ {A B : Type 0} (R : A → B → Type 0) where
  pub zip_at : (xs : List A) (ys : List B) (k : ℕ) (d : B) → AllZip R xs ys → k < length ys → (x : A) × (slice_get xs k ≡ Some x) × R x (get_or ys k d)
  zip_at [] [] k d h lt = absurd (omega arith)
  zip_at [] (v ∷ ys) k d h lt = absurd h
  zip_at (u ∷ xs) [] k d h lt = absurd h
  zip_at (u ∷ xs) (v ∷ ys) zero d h lt = (u, refl, h.0)
  zip_at (u ∷ xs) (v ∷ ys) (suc k) d h lt = zip_at xs ys k d h.1 (omega arith)

module _ {A : Type 0} where
  -- what stands at a place of a list that grew by one stood there before, or is that one
  pub at_push : (xs : List A) (x : A) (k : ℕ) (y : A) → slice_get (xs ++ x ∷ []) k ≡ Some y → (slice_get xs k ≡ Some y) ⊎ ((k ≡ length xs) × (y ≡ x))
  at_push [] x zero y e = inr (refl, cc)
  at_push [] x (suc k) y e = cc
  at_push (z ∷ xs) x zero y e = inl e
  at_push (z ∷ xs) x (suc k) y e = elim (at_push xs x k y e) [
    | inl before ↦ inl before
    | inr last ↦ inr (ap (λ n. suc n) last.0, last.1)
  ]
