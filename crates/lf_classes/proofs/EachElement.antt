-- What holds of each element of a list, and of its place.
use Rattle.std.proofs.Common.{◌≡◌, ℕ, zero, suc, List, [], ◌∷◌, ◌++◌, Some, subst}
use Rattle.std.specs.Prelude.{slice_get, slice_set}
use Rattle.std.proofs.lemmas.Option.{same_Some}

-- one more element

pub each_push : {A : Type 0} (P : ℕ → A → Type 0) (xs : List A) (x : A) → ((k : ℕ) (y : A) → slice_get xs k ≡ Some y → P k y) → ((k : ℕ) → P k x) → (k : ℕ) (y : A) → slice_get (xs ++ x ∷ []) k ≡ Some y → P k y
each_push P [] x old new zero y e = let Q : _ = P 0 in subst Q (same_Some x y e) (new 0)
each_push P [] x old new (suc k) y e = old (suc k) y e
each_push P (z ∷ xs) x old new zero y e = old zero y e
each_push P (z ∷ xs) x old new (suc k) y e = each_push (λ j. P (suc j)) xs x (λ j. old (suc j)) (λ j. new (suc j)) k y e

pub each_set : {A : Type 0} (P : ℕ → A → Type 0) (xs : List A) (i : ℕ) (x : A) → ((k : ℕ) (y : A) → slice_get xs k ≡ Some y → P k y) → P i x → (k : ℕ) (y : A) → slice_get (slice_set xs i x) k ≡ Some y → P k y
each_set P [] i x old new k y e = old k y e
each_set P (z ∷ xs) zero x old new zero y e = let Q : _ = P 0 in subst Q (same_Some x y e) new
each_set P (z ∷ xs) zero x old new (suc k) y e = old (suc k) y e
each_set P (z ∷ xs) (suc i) x old new zero y e = old zero y e
each_set P (z ∷ xs) (suc i) x old new (suc k) y e = each_set (λ j. P (suc j)) xs i x (λ j. old (suc j)) new k y e
