-- Pieces that were sorted by their numbers stand at them.
use Rattle.std.proofs.Common.{◌≡◌, ℕ, zero, suc, ◌+◌, ◌<◌, ◌≤◌, List, [], ◌∷◌, length, get_or, map, Some, slice_get, All, IsPermutation, refl, sym, ap, ◌∙◌, subst, arith}
use Rattle.std.specs.List.Sorted.{IsNonDecreasingBy}
use Rattle.std.proofs.lemmas.List.{get_or-map, length-map}
use Rattle.std.proofs.lemmas.Option.{slice_get-map, slice_get-get_or}
use Rattle.std.specs.Option.{option_map}
use Rattle.std.proofs.lemmas.List.Sorted.{IsPermutation-map, IsPermutation-sym, All-permutation, length_permutation}
use mathlib.Core.Logic.{dite}
use native.Mathlib.Decide.{ℕ_discrete, dec_le}
use Rattle.lf_board.specs.Numbers.{times, once_below, AreNumbersBelow}
use Rattle.lf_board.specs.Pieces.{numbers_of, StandsAt}
use Rattle.lf_board.specs.declared.pieces.Piece.{Piece}
use Rattle.lf_board.proofs.Sums.{times_hit, times_miss, times-permutation, once_below_inside}

absent : (x : ℕ) (xs : List ℕ) → ((j : ℕ) → j < length xs → x < get_or xs j 0) → times x xs ≡ 0
absent x [] above = refl
absent x (y ∷ ys) above =
    let apart : x < y = above 0 (omega arith) in
    times_miss x y ys (λ e. absurd (omega arith)) ∙ absent x ys (λ j h. above (suc j) (omega arith))

abbrev Rises : List ℕ → Type 0
Rises xs = (i j : ℕ) → i ≤ j → j < length xs → get_or xs i 0 ≤ get_or xs j 0

-- the numbers from low on stand in the list once, and none below
abbrev HoldsFrom : ℕ → List ℕ → Type 0
HoldsFrom low xs = ((x : ℕ) → low ≤ x → x < low + length xs → times x xs ≡ 1) × ((x : ℕ) → x < low → times x xs ≡ 0)

module _ (low x : ℕ) (xs : List ℕ) (up : Rises (x ∷ xs)) (each : HoldsFrom low (x ∷ xs)) where
  first_at_most : Dec (x ≤ low) → x ≤ low
  first_at_most (yes d) = d
  first_at_most (no d) =
      let one = each.0 low (omega arith) (omega arith) in
      let none_of = absent low (x ∷ xs) (λ j l. let least = up 0 j (omega arith) l in omega arith) in absurd (omega arith)

  first_at_least : Dec (low ≤ x) → low ≤ x
  first_at_least (yes d) = d
  first_at_least (no d) = let none_of = each.1 x (omega arith) in let some_of = times_hit x x xs refl in absurd (omega arith)

  first : x ≡ low
  first = let a = first_at_most (dec_le x low) in let b = first_at_least (dec_le low x) in omega arith

  rest_below : (y : ℕ) → y < suc low → times y xs ≡ 0
  rest_below y l = dite (ℕ_discrete y low)
      (λ e. let one = each.0 y (omega arith) (omega arith) in let s = times_hit y x xs (e ∙ sym first) in omega arith)
      (λ ne. let none_of = each.1 y (omega arith) in let s = times_miss y x xs (λ e. ne (e ∙ first)) in omega arith)

  rest : HoldsFrom (suc low) xs
  rest = ((λ y from to. let one = each.0 y (omega arith) (omega arith) in let s = times_miss y x xs (λ e. let f = first in absurd (omega arith)) in omega arith), rest_below)

placed : (low : ℕ) (xs : List ℕ) → Rises xs → HoldsFrom low xs → (k : ℕ) → k < length xs → get_or xs k 0 ≡ low + k
placed low [] up each k h = absurd (omega arith)
placed low (x ∷ xs) up each zero h = let f = first low x xs up each in omega arith
placed low (x ∷ xs) up each (suc k) h =
    let r = placed (suc low) xs (λ a b le lt. up (suc a) (suc b) (omega arith) (omega arith)) (rest low x xs up each) k (omega arith) in omega arith

module _ {T : Type 0} where
  abbrev number : Piece T → ℕ
  number p = p.number

  abbrev value : Piece T → T
  value p = p.value

  length-numbers_of : (ps : List (Piece T)) → length (numbers_of ps) ≡ length ps
  length-numbers_of ps = length-map ps number

  number_at : (ps : List (Piece T)) (k : ℕ) (d : Piece T) → k < length ps → get_or (numbers_of ps) k 0 ≡ (get_or ps k d).number
  number_at ps k d h = get_or-map number ps k d 0 h

  value_at : (ps : List (Piece T)) (k : ℕ) (d : Piece T) → k < length ps → slice_get (map value ps) k ≡ Some (get_or ps k d).value
  value_at ps k d h = slice_get-map value ps k ∙ ap (option_map value) (slice_get-get_or ps k d h)

  -- in another order they are the same numbers
  pub numbers-permutation : (ps qs : List (Piece T)) → AreNumbersBelow (length ps) (numbers_of ps) → IsPermutation ps qs → AreNumbersBelow (length qs) (numbers_of qs)
  numbers-permutation ps qs each moved =
      let same = length_permutation ps qs moved in (
        length-numbers_of qs,
        λ x. times-permutation x (numbers_of ps) (numbers_of qs) (IsPermutation-map number ps qs moved) ∙ each.1 x ∙ ap (λ n. once_below n x) (sym same),
      )

  -- sorted pieces stand at their numbers
  module _ (qs : List (Piece T)) (each : AreNumbersBelow (length qs) (numbers_of qs)) (up : IsNonDecreasingBy number qs) where
    is_number : (k : ℕ) (d : Piece T) → k < length qs → (get_or qs k d).number ≡ k
    is_number k d h =
        let as_long = length-numbers_of qs in
        let a = number_at qs k d h in
        let b = placed 0 (numbers_of qs)
        (λ i j le lt. let x = number_at qs i d (omega arith) in let y = number_at qs j d (omega arith) in let z = up i j d le (omega arith) in omega arith)
        ((λ x from to. each.1 x ∙ once_below_inside (length qs) x (omega arith)), λ x to. absurd (omega arith)) k (omega arith) in
        omega arith

    in_place : All (StandsAt (map value qs)) qs
    in_place k d h = subst (λ (i : ℕ). slice_get (map value qs) i ≡ Some (get_or qs k d).value) (sym (is_number k d h)) (value_at qs k d h)

  -- and so do pieces in any order, among the values of the sorted ones
  pub all_in_place : (ps qs : List (Piece T)) → AreNumbersBelow (length ps) (numbers_of ps) → IsPermutation ps qs → IsNonDecreasingBy (λ (p : Piece T). p.number) qs → All (StandsAt (map (λ (p : Piece T). p.value) qs)) ps
  all_in_place ps qs each moved up = All-permutation (StandsAt (map value qs)) qs ps (IsPermutation-sym ps qs moved) (in_place qs (numbers-permutation ps qs each moved) up)
