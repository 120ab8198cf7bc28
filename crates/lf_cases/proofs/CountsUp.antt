-- The list of the first numbers, grown by one number at a time.
use Rattle.std.proofs.lemmas.Bool.{cases_lt}
use Rattle.std.proofs.Common.{◌≡◌, ◌+◌, ◌≤◌, ◌<◌, ◌⊎◌, inl, inr, ℕ, List, [], ◌∷◌, ◌++◌, length, slice_index, get_or, ap, subst, sym, ◌∙◌, arith}
use Rattle.std.specs.List.Sorted.{IsNonDecreasing}
use Rattle.std.proofs.Math.ListN.{get_or-append}
use Rattle.std.proofs.Math.Seq.{get_or-append_seam}
use Rattle.std.proofs.lemmas.List.{length-append}
use Rattle.std.proofs.lemmas.List.Sorted.{IsNonDecreasingBy-from_default}

-- the numbers 0 to n - 1
abbrev pub CountsUp : List ℕ → ℕ → Type 0
CountsUp xs n = (length xs ≡ n) × ((k : ℕ) → k < n → slice_index xs k ≡ k)

pub counts_up-push : (xs : List ℕ) (n : ℕ) → CountsUp xs n → CountsUp (xs ++ n ∷ []) (n + 1)
counts_up-push xs n counts = (length-append xs (n ∷ []) ∙ ap (λ len. len + 1) counts.0, λ k lt. by k lt (cases_lt k n)) where
  by : (k : ℕ) → k < n + 1 → (k < n) ⊎ (n ≤ k) → slice_index (xs ++ n ∷ []) k ≡ k
  by k lt (inl before) =
      let len = counts.0 in
      get_or-append xs (n ∷ []) 0 k (omega arith) ∙ counts.1 k before
  by k lt (inr last) =
      let len = counts.0 in
      let e : k ≡ length xs = omega arith in
      let same : n ≡ k = omega arith in
      ap (λ i. get_or (xs ++ n ∷ []) i 0) e ∙ get_or-append_seam xs n [] 0 ∙ same

-- the same of a list that is said to be the longer one
pub counts_up-grown : (xs ys : List ℕ) (n m : ℕ) → CountsUp xs n → n ≡ m → ys ≡ xs ++ m ∷ [] → CountsUp ys (m + 1)
counts_up-grown xs ys n m counts end is = subst (λ list. CountsUp list (m + 1)) (sym is) (counts_up-push xs m (subst (λ k. CountsUp xs k) end counts))

pub counts_up-rises : (xs : List ℕ) (n : ℕ) → CountsUp xs n → IsNonDecreasing xs
counts_up-rises xs n counts = IsNonDecreasingBy-from_default (λ x. x) xs 0 within where
  within : (i j : ℕ) → i ≤ j → j < length xs → slice_index xs i ≤ slice_index xs j
  within i j le lt =
      let len = counts.0 in
      let at_i = counts.1 i (omega arith) in
      let at_j = counts.1 j (omega arith) in
      omega arith
