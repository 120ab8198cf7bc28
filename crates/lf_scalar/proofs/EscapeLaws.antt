-- Escapes of the code and of the definition.
use Rattle.std.proofs.Common.{◌≡◌, ℕ, zero, suc, ◌+◌, ◌<◌, ◌≤◌, Bool, true, false, eqb, List, [], ◌∷◌, Option, Some, None, length, get_or, take, drop, refl, ap, arith, add-one, sym, eq-eqb}
use Rattle.std.specs.Prelude.{option_map, IfSome}
use Rattle.std.specs.Option.{SomeIff}
use Rattle.std.specs.Char.{IsScalar}
use Rattle.std.proofs.lemmas.Bool.{ne_eqb}
use Rattle.std.proofs.lemmas.List.{length-take}
use lib.Utf8.{scalar}
use Rattle.lf_scalar.specs.Cells.{Cell, cell, cells}
use Rattle.lf_scalar.specs.Quoted.{width_of}
use Rattle.lf_scalar.specs.reading.Quoted.{told, number_if, number_of, escape_of, as_piece, as_character, as_escape}
use Rattle.lf_scalar.proofs.Cells.{cells-length}

pub take-cells : (n at : ℕ) (xs : List ℕ) → take n (cells at xs) ≡ cells at (take n xs)
take-cells zero at xs = refl
take-cells (suc n) at [] = refl
take-cells (suc n) at (x ∷ xs) = ap (λ (cs : List Cell). cell x at ∷ cs) (take-cells n (suc at) xs)

module _ (b e : Cell) (w at : ℕ) (xs : List ℕ) where
  pub number-short : length xs < w → option_map as_piece (number_of b e w (cells at xs)) ≡ None
  number-short lt =
      let n : eqb (length (take w (cells at xs))) w ≡ false = ne_eqb _ w (λ h. omega (arith, length-take w (cells at xs), cells-length at xs, h)) in
      rw n refl

  number-long : w ≤ length xs → number_of b e w (cells at xs) ≡ number_if b e (cells at (take w xs)) (told 0 (cells at (take w xs)))
  number-long le =
      let n : eqb (length (cells at (take w xs))) w ≡ true = eq-eqb _ w (omega (arith, cells-length at (take w xs), length-take w xs)) in
      rw (take-cells w at xs, n) refl

  pub number-none : w ≤ length xs → told 0 (cells at (take w xs)) ≡ None → option_map as_piece (number_of b e w (cells at xs)) ≡ None
  number-none le t = rw (number-long le, t) refl

  pub number-some : (n : ℕ) (r : Option ℕ) → w ≤ length xs → told 0 (cells at (take w xs)) ≡ Some n → SomeIff r (IsScalar n) n → option_map (as_character b (1 + w)) r ≡ option_map as_piece (number_of b e w (cells at xs))
  number-some n r le t h = rw (number-long le, t) (sym (by r h))
    where
      count : suc (length (cells at (take w xs))) ≡ 1 + w
      count = omega (arith, cells-length at (take w xs), length-take w xs, le)

      no : (s : Bool) → scalar n ≡ s → (scalar n ≡ true → ⊥) → scalar n ≡ false
      no true e h = absurd (h e)
      no false e h = e

      by : (r : Option ℕ) → SomeIff r (IsScalar n) n → option_map as_piece (number_if b e (cells at (take w xs)) (Some n)) ≡ option_map (as_character b (1 + w)) r
      by None h = rw (no (scalar n) refl h) refl
      by (Some x) h = rw (h.0, h.1, count) refl

pub escape-width : (b : Cell) (at w : ℕ) (rest : List ℕ) → 0 < length rest → Some w ≡ width_of (get_or rest 0 0) → escape_of b (cells at rest) ≡ number_of b (cell (get_or rest 0 0) at) w (cells (at + 1) (drop 1 rest))
escape-width b at w [] lt e = absurd (omega arith)
escape-width b at w (x ∷ xs) lt e = rw (← e, add-one at) refl

abbrev pub counting : ℕ → Option ℕ → Option (ℕ × ℕ)
counting count r = option_map (λ n. (n, count)) r

pub counted-is : (b : Cell) (count : ℕ) (r : Option ℕ) → option_map (as_escape b) (counting count r) ≡ option_map (as_character b count) r
counted-is b count None = refl
counted-is b count (Some n) = refl

pub counted-within : (count least most len : ℕ) (r : Option ℕ) → IfSome r (λ _. least ≤ most) → (least ≤ most → count ≤ len) → IfSome (counting count r) (λ x. x.1 ≤ len)
counted-within count least most len None h f = tt
counted-within count least most len (Some n) h f = f h
