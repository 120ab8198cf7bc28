-- Elements of a list at their numbers, where they are taken out from behind and others are put behind those that were made of them.
use Rattle.std.proofs.Common.{◌≡◌, ℕ, ◌+◌, ◌<◌, zero, suc, List, ◌++◌, [], ◌∷◌, length, Some, refl, ap, ◌∙◌, subst, arith, reverse}
use Rattle.std.specs.Prelude.{slice_get}
use Rattle.std.proofs.lemmas.List.{length-append, reverse-append}
use Rattle.std.proofs.lemmas.Option.{same_Some}

module _ {A : Type 0} (P : ℕ → A → Type 0) where
  -- something holds of each element, by its number from one on
  abbrev pub EachFrom : ℕ → List A → Type 0
  EachFrom n xs = (k m : ℕ) (x : A) → m ≡ n + k → slice_get xs k ≡ Some x → P m x

  pub none_yet : EachFrom 0 []
  none_yet k m x e at = cc

  -- the last element of a list is the first of its reverse
  pub next_left : (n : ℕ) (old new : List A) (x : A) → old ≡ new ++ x ∷ [] → EachFrom n (reverse old) → P n x
  next_left n old new x is each =
      let turned : reverse old ≡ x ∷ reverse new = ap reverse is ∙ reverse-append new (x ∷ []) in
      let all : EachFrom n (x ∷ reverse new) = subst (EachFrom n) turned each in
      all 0 n x (omega arith) refl

  pub still_left : (n : ℕ) (old new : List A) (x : A) → old ≡ new ++ x ∷ [] → EachFrom n (reverse old) → EachFrom (suc n) (reverse new)
  still_left n old new x is each =
      let turned : reverse old ≡ x ∷ reverse new = ap reverse is ∙ reverse-append new (x ∷ []) in
      let all : EachFrom n (x ∷ reverse new) = subst (EachFrom n) turned each in
      λ k m y e at. all (suc k) m y (omega (arith, e)) at

  -- one more behind
  pub one_more : (n i : ℕ) (told : List A) (one : A) → i ≡ n + length told → EachFrom n told → P i one → EachFrom n (told ++ one ∷ [])
  one_more n i [] one e each is zero m x e' at =
      let same : i ≡ m = omega (arith, e, e') in subst (P m) (same_Some one x at) (subst (λ j. P j one) same is)
  one_more n i [] one e each is (suc k) m x e' at = cc
  one_more n i (y ∷ told) one e each is zero m x e' at = each zero m x e' at
  one_more n i (y ∷ told) one e each is (suc k) m x e' at =
      one_more (suc n) i told one (omega (arith, e)) (λ j l z e'' there. each (suc j) l z (omega (arith, e'')) there) is k m x (omega (arith, e')) at

pub length_more : {A : Type 0} (told pushed : List A) (one : A) → pushed ≡ told ++ one ∷ [] → length pushed ≡ suc (length told)
length_more told pushed one pushes = let more : length pushed ≡ length told + 1 = ap length pushes ∙ length-append told (one ∷ []) in omega (arith, more)

-- one fewer is left
pub count_more : {A B : Type 0} (told : List A) (old new : List B) (x : B) (n : ℕ) → old ≡ new ++ x ∷ [] → length told + length old ≡ n → (suc (length told + length new) ≡ n) × (length told < n)
count_more told old new x n is count = let less : length old ≡ length new + 1 = ap length is ∙ length-append new (x ∷ []) in (omega (arith, less, count), omega (arith, less, count))
