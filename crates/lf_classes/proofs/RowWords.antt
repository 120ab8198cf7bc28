-- Rows in words.
use Rattle.std.proofs.Common.{◌≡◌, ℕ, zero, suc, ◌+◌, ◌*◌, ◌/◌, ◌%◌, ◌^◌, ◌<◌, ◌≤◌, Bool, true, false, cond, eqb, List, [], ◌∷◌, ◌++◌, map, length, get_or, take, drop, refl, sym, ◌∙◌, ap, arith, length-drop, add-one, lit<}
use Rattle.std.proofs.Math.Nat.{div-add-mod}
use Rattle.std.specs.Int.{bit_at}
use Rattle.std.specs.List.{sum}
use Rattle.std.proofs.lemmas.Grind.{pow_more}
use Rattle.std.proofs.lemmas.List.{get_or-take, get_or-drop, length-take, same_lists, take-append-drop}
use Rattle.std.proofs.lemmas.Nat.Bits.{bit_at-lt, bit_at-suc, bit_at-zero, bit_at_lowest, same_from_bits_below}
use Rattle.lf_semantics.specs.ClassRows.{Sets, emptied}
use Rattle.lf_semantics.proofs.RowSets.{none_at}
use Rattle.lf_classes.specs.RowWords.{in_order, number_of, row_word, words_for}
use Rattle.lf_classes.specs.views.Bits.{bit, bits_of}
use Rattle.lf_classes.proofs.Cutting.{sum_cons}
use Rattle.lf_classes.proofs.WordLists.{get_bits, length_bits}
use Rattle.lf_classes.specs.views.Cut.{cut}

-- numbers by their bits

lowest : (on : Bool) (n : ℕ) → bit (cond on 1 0 + 2 * n) 0 ≡ on
lowest true n = let e : bit_at (1 + 2 * n) 0 ≡ 1 = bit_at_lowest (1 + 2 * n) ∙ omega arith in ap (λ x. eqb x 1) e
lowest false n = let e : bit_at (0 + 2 * n) 0 ≡ 0 = bit_at_lowest (0 + 2 * n) ∙ omega arith in ap (λ x. eqb x 1) e

higher : (on : Bool) (n i : ℕ) → bit (cond on 1 0 + 2 * n) (suc i) ≡ bit n i
higher true n i = ap (λ x. eqb x 1) (bit_at-suc (1 + 2 * n) i ∙ ap (λ m. bit_at m i) (let e : (1 + 2 * n) / 2 ≡ n = omega arith in e))
higher false n i = ap (λ x. eqb x 1) (bit_at-suc (0 + 2 * n) i ∙ ap (λ m. bit_at m i) (let e : (0 + 2 * n) / 2 ≡ n = omega arith in e))

pub bit_number : (bits : List Bool) (i : ℕ) → bit (number_of bits) i ≡ get_or bits i false
bit_number [] i = ap (λ x. eqb x 1) (bit_at-zero i)
bit_number (on ∷ bits) zero = lowest on (number_of bits)
bit_number (on ∷ bits) (suc i) = higher on (number_of bits) i ∙ bit_number bits i

twice : (n : ℕ) → 2 ^ suc n ≡ 2 ^ n * 2
twice n = ap (λ (m : ℕ). 2 ^ m) (sym (add-one n)) ∙ pow_more 2 n

digit : (on : Bool) → cond on 1 0 ≤ 1
digit true = omega arith
digit false = omega arith

pub number_below : (n : ℕ) (bits : List Bool) → length bits ≤ n → number_of bits < 2 ^ n
number_below zero [] h = lit< tt
number_below zero (on ∷ bits) h = absurd (omega arith)
number_below (suc n) [] h = omega (arith, twice n, number_below n [] (omega arith))
number_below (suc n) (on ∷ bits) h = omega (arith, twice n, digit on, number_below n bits (omega arith))

same_digit : (x y : ℕ) → x < 2 → y < 2 → eqb x 1 ≡ eqb y 1 → x ≡ y
same_digit zero zero h k e = refl
same_digit zero (suc zero) h k e = absurd (cc)
same_digit (suc zero) zero h k e = absurd (cc)
same_digit (suc zero) (suc zero) h k e = refl
same_digit (suc (suc x)) y h k e = absurd (omega arith)
same_digit x (suc (suc y)) h k e = absurd (omega arith)

-- words with the same bits are equal
pub same_word : (a b : ℕ) → a < 2 ^ 64 → b < 2 ^ 64 → ((i : ℕ) → i < 64 → bit a i ≡ bit b i) → a ≡ b
same_word a b h k same = same_from_bits_below 64 a b h k (λ i l. same_digit (bit_at a i) (bit_at b i) (bit_at-lt a i) (bit_at-lt b i) (same i l))

pub bit_part : (bits : List Bool) (k i : ℕ) → i < 64 → bit (number_of (take 64 (drop k bits))) i ≡ get_or bits (k + i) false
bit_part bits k i h = bit_number (take 64 (drop k bits)) i ∙ get_or-take 64 (drop k bits) i false h ∙ get_or-drop k bits i false

pub number_is : (w : ℕ) (bits : List Bool) (k : ℕ) → w < 2 ^ 64 → ((i : ℕ) → i < 64 → bit w i ≡ get_or bits (k + i) false) → w ≡ number_of (take 64 (drop k bits))
number_is w bits k h same =
    same_word w (number_of (take 64 (drop k bits))) h (number_below 64 (take 64 (drop k bits)) (omega (arith, length-take 64 (drop k bits)))) (λ i l. same i l ∙ sym (bit_part bits k i l))

-- the bit of a word of a row
pub bit_row_word : (row : Sets) (k i : ℕ) → i < 64 → bit (row_word row k) i ≡ get_or (in_order row) (64 * k + i) false
bit_row_word row k i h = bit_part (in_order row) (64 * k) i h

-- the classes of all labels in order

nothing : (bits : List Bool) → length bits ≡ 0 → [] ≡ bits
nothing [] h = refl
nothing (on ∷ bits) h = absurd (omega arith)

pub cut_in_order : (counts : List ℕ) (bits : List Bool) → length bits ≡ sum counts → in_order (cut counts bits) ≡ bits
cut_in_order [] bits h = nothing bits h
cut_in_order (n ∷ counts) bits h =
    ap (λ rest. take n bits ++ rest) (cut_in_order counts (drop n bits) (omega (arith, h, sum_cons n counts, length-drop n bits))) ∙ take-append-drop n bits

cleared : List Bool → List Bool
cleared bits = map (λ on. false) bits

clear_append : (bits rest : List Bool) → ((i : ℕ) → get_or bits i false ≡ false) → ((i : ℕ) → get_or rest i false ≡ false) → (i : ℕ) → get_or (bits ++ rest) i false ≡ false
clear_append [] rest none none' i = none' i
clear_append (on ∷ bits) rest none none' zero = none 0
clear_append (on ∷ bits) rest none none' (suc i) = clear_append bits rest (λ j. none (suc j)) none' i

pub emptied_in_order : (row : Sets) (i : ℕ) → get_or (in_order (emptied row)) i false ≡ false
emptied_in_order [] i = refl
emptied_in_order (set ∷ row) i = clear_append (map (λ on. false) set) (in_order (emptied row)) (none_at set) (emptied_in_order row) i

-- the words of an empty row are 0
pub empty_word : (row : Sets) (k : ℕ) → 0 ≡ row_word (emptied row) k
empty_word row k = number_is 0 (in_order (emptied row)) (64 * k) (lit< tt) (λ i h. ap (λ x. eqb x 1) (bit_at-zero i) ∙ sym (emptied_in_order row (64 * k + i)))

pub word_within : (k n : ℕ) → k < words_for n → 64 * k < n
word_within k n h = omega (arith, h, div-add-mod (n + 63) 64)

-- bits of words

pub words_hold : (n : ℕ) → n ≤ 64 * words_for n
words_hold n = omega (arith, div-add-mod (n + 63) 64)

-- what stands behind the words of the bits isn't looked at
pub same_bits : (xs ys : List ℕ) (len : ℕ) → len ≤ 64 * length ys → ((k : ℕ) → k < length ys → get_or xs k 0 ≡ get_or ys k 0) → bits_of xs len ≡ bits_of ys len
same_bits xs ys len h same =
    same_lists (bits_of xs len) (bits_of ys len) (length_bits xs len ∙ sym (length_bits ys len))
    (λ k d l. let b : k < len = omega (arith, l, length_bits xs len) in
    get_bits xs len k d b ∙ ap (λ w. bit w (k % 64)) (same (k / 64) (omega (arith, h, b, div-add-mod k 64))) ∙ sym (get_bits ys len k d b))
