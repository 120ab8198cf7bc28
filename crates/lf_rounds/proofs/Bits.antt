-- How many bits of words are set.
use Rattle.std.proofs.Common.{◌≡◌, ◌≢◌, ℕ, zero, suc, ◌*◌, ◌<◌, ◌≤◌, ◌^◌, List, [], ◌∷◌, ◌++◌, length, refl, sym, subst, inl, inr, arith}
use Rattle.std.specs.Int.{bit_at}
use Rattle.std.proofs.lemmas.Bool.{cases_lt}
use Rattle.std.proofs.lemmas.Grind.{common_steps}
use Rattle.std.proofs.lemmas.Nat.Bits.{bit_at-lt, same_from_bits_below}
use Rattle.lf_classes.specs.RowWords.{WordLeq, WordsLeq}
use Rattle.lf_rounds.specs.Words.{AreWords}
use Rattle.lf_rounds.specs.views.Rising.{bits_set, ones}

pub word_more : (words : List ℕ) (w : ℕ) → AreWords words → w < 2 ^ 64 → AreWords (words ++ w ∷ [])
word_more words w all h = grind (arith, common_steps, all)

ones_rise : (n a b : ℕ) → WordLeq a b → ones n a ≤ ones n b
ones_rise zero a b leq = omega arith
ones_rise (suc n) a b leq = omega (arith, leq n, ones_rise n a b leq)

ones_same : (n a b : ℕ) → WordLeq a b → ones n a ≡ ones n b → (i : ℕ) → i < n → bit_at a i ≡ bit_at b i
ones_same zero a b leq e i h = absurd (omega arith)
ones_same (suc n) a b leq e i h =
    let here : bit_at a n ≡ bit_at b n = omega (arith, leq n, ones_rise n a b leq, e) in
    elim (cases_lt i n) [
      | inl l ↦ ones_same n a b leq (omega (arith, e, here)) i l
      | inr l ↦ (let same : n ≡ i = omega (arith, h, l) in subst (λ j. bit_at a j ≡ bit_at b j) same here)
    ]

ones_most : (n a : ℕ) → ones n a ≤ n
ones_most zero a = omega arith
ones_most (suc n) a = omega (arith, ones_most n a, bit_at-lt a n)

pub bits_most : (words : List ℕ) → bits_set words ≤ 64 * length words
bits_most [] = omega arith
bits_most (w ∷ words) = omega (arith, ones_most 64 w, bits_most words)

pub rest_leq : (x y : ℕ) (xs ys : List ℕ) → WordsLeq (x ∷ xs) (y ∷ ys) → WordsLeq xs ys
rest_leq x y xs ys leq = record { at = λ k. leq.at (suc k) }

bits_rise : (xs ys : List ℕ) → length xs ≡ length ys → WordsLeq xs ys → bits_set xs ≤ bits_set ys
bits_rise [] [] l leq = omega arith
bits_rise [] (y ∷ ys) l leq = absurd (omega arith)
bits_rise (x ∷ xs) [] l leq = absurd (omega arith)
bits_rise (x ∷ xs) (y ∷ ys) l leq = omega (arith, ones_rise 64 x y (leq.at 0), bits_rise xs ys (omega arith) (rest_leq x y xs ys leq))

rest_fits : (x : ℕ) (xs : List ℕ) → AreWords (x ∷ xs) → AreWords xs
rest_fits x xs all k d h = all (suc k) d (omega arith)

first_fits : (x : ℕ) (xs : List ℕ) → AreWords (x ∷ xs) → x < 2 ^ 64
first_fits x xs all = all 0 0 (omega arith)

bits_same : (xs ys : List ℕ) → length xs ≡ length ys → AreWords xs → AreWords ys → WordsLeq xs ys → bits_set xs ≡ bits_set ys → xs ≡ ys
bits_same [] [] l f g leq e = refl
bits_same [] (y ∷ ys) l f g leq e = absurd (omega arith)
bits_same (x ∷ xs) [] l f g leq e = absurd (omega arith)
bits_same (x ∷ xs) (y ∷ ys) l f g leq e =
    let rest = rest_leq x y xs ys leq in
    let a = ones_rise 64 x y (leq.at 0) in
    let b = bits_rise xs ys (omega arith) rest in
    let first : x ≡ y = same_from_bits_below 64 x y (first_fits x xs f) (first_fits y ys g) (ones_same 64 x y (leq.at 0) (omega (arith, a, b, e))) in
    let others : xs ≡ ys = bits_same xs ys (omega arith) (rest_fits x xs f) (rest_fits y ys g) rest (omega (arith, a, b, e)) in
    cc

-- greater words that aren't the same have more bits
pub bits_more : (xs ys : List ℕ) → length xs ≡ length ys → AreWords xs → AreWords ys → WordsLeq xs ys → ys ≢ xs → bits_set xs < bits_set ys
bits_more xs ys l f g leq ne = elim (cases_lt (bits_set xs) (bits_set ys)) [
  | inl h ↦ h
  | inr h ↦ absurd (ne (sym (bits_same xs ys l f g leq (omega (arith, h, bits_rise xs ys l leq)))))
]
