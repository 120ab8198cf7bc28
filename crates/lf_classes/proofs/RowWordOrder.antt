-- Rows in words, and their order.
use Rattle.std.proofs.Common.{◌≡◌, ℕ, zero, suc, ◌+◌, ◌-◌, ◌*◌, ◌/◌, ◌%◌, ◌<◌, ◌≤◌, Bool, true, false, cond, eqb, List, [], ◌∷◌, ◌++◌, map, length, get_or, take, drop, inl, inr, refl, sym, ◌∙◌, ap, subst, arith, length-append}
use Rattle.std.proofs.Math.Nat.{div-add-mod}
use Rattle.std.proofs.Math.Seq.{drop-append_seam, take-append_seam}
use Rattle.std.specs.Int.{bit_at}
use Rattle.std.specs.List.{sum}
use Rattle.std.proofs.lemmas.Bool.{cases_lt, eq-eqb, eqb-true}
use Rattle.std.proofs.lemmas.List.{ext_get_or, get_or-append_right, get_or_append_left, get_or_past, length-take}
use Rattle.std.proofs.lemmas.List.FromFn.{get_or-map-range_with_len, length-map-range_with_len}
use Rattle.std.proofs.lemmas.Nat.Bits.{bit_at-lt, bit_at-zero}
use Rattle.lf_semantics.specs.ClassRows.{Sets, emptied, holds, is_live, normalized}
use Rattle.lf_semantics.specs.Environments.{IsRow, Leq}
use Rattle.lf_semantics.specs.Listing.{Listing, class_count, class_counts}
use Rattle.lf_semantics.proofs.LeqLaws.{leq_dead, live_more, normalized_live}
use Rattle.lf_semantics.proofs.NormalizedRows.{normalized_twice}
use Rattle.lf_semantics.proofs.RowLaws.{holds_within, shape_normalized}
use Rattle.lf_semantics.proofs.RowSets.{count_at, emptied_dead}
use Rattle.lf_classes.specs.RowWords.{WordLeq, WordsLeq, in_order, row_of_words, row_word, word_count, words_of_row}
use Rattle.lf_classes.specs.views.Bits.{bit, bits_of}
use Rattle.lf_classes.specs.views.Cut.{cut, start}
use Rattle.lf_classes.proofs.Cutting.{holds-cut, length-cut, shape_cut, start_within, sum_cons}
use Rattle.lf_classes.proofs.RowWords.{bit_number, bit_row_word, emptied_in_order}
use Rattle.lf_classes.proofs.WordLists.{get_bits, length_bits}

-- words

pub word_refl : (a : ℕ) → WordLeq a a
word_refl a i = omega arith

pub word_trans : (a b c : ℕ) → WordLeq a b → WordLeq b c → WordLeq a c
word_trans a b c p q i = omega (arith, p i, q i)

pub zero_leq : (a : ℕ) → WordLeq 0 a
zero_leq a i = omega (arith, bit_at-zero i)

pub words_refl : (xs : List ℕ) → WordsLeq xs xs
words_refl xs = record { at = λ k. word_refl (get_or xs k 0) }

pub words_trans : (xs ys zs : List ℕ) → WordsLeq xs ys → WordsLeq ys zs → WordsLeq xs zs
words_trans xs ys zs p q = record { at = λ k. word_trans (get_or xs k 0) (get_or ys k 0) (get_or zs k 0) (p.at k) (q.at k) }

-- bits that are set
on_leq : (x y : ℕ) → x < 2 → y < 2 → (eqb x 1 ≡ true → eqb y 1 ≡ true) → x ≤ y
on_leq zero y h k on = omega arith
on_leq (suc zero) y h k on = omega (arith, eqb-true y 1 (on refl))
on_leq (suc (suc x)) y h k on = absurd (omega arith)

pub leq_of_bits : (a b : ℕ) → ((i : ℕ) → bit a i ≡ true → bit b i ≡ true) → WordLeq a b
leq_of_bits a b on i = on_leq (bit_at a i) (bit_at b i) (bit_at-lt a i) (bit_at-lt b i) (on i)

pub bits_of_leq : (a b : ℕ) → WordLeq a b → (i : ℕ) → bit a i ≡ true → bit b i ≡ true
bits_of_leq a b leq i on = eq-eqb (bit_at b i) 1 (omega (arith, leq i, eqb-true (bit_at a i) 1 on, bit_at-lt b i))

-- sets in order

pub length-in_order : (row : Sets) → length (in_order row) ≡ sum (map length row)
length-in_order [] = refl
length-in_order (set ∷ row) = omega (arith, length-append set (in_order row), length-in_order row, sum_cons (length set) (map length row))

pub cut_back : (row : Sets) → cut (map length row) (in_order row) ≡ row
cut_back [] = refl
cut_back (set ∷ row) =
    ap (λ (s : List Bool). s ∷ cut (map length row) (drop (length set) (set ++ in_order row))) (take-append_seam set (in_order row))
    ∙ ap (λ (bits : List Bool). set ∷ cut (map length row) bits) (drop-append_seam set (in_order row)) ∙ ap (λ (rest : Sets). set ∷ rest) (cut_back row)

-- what one row holds and another too, in order
pub in_order_leq : (row other : Sets) → map length row ≡ map length other → ((l c : ℕ) → holds row l c ≡ true → holds other l c ≡ true) → (n : ℕ) → get_or (in_order row) n false ≡ true → get_or (in_order other) n false ≡ true
in_order_leq [] [] e all n on = on
in_order_leq [] (s ∷ other) e all n on = absurd (cc)
in_order_leq (set ∷ row) [] e all n on = absurd (cc)
in_order_leq (set ∷ row) (s ∷ other) e all n on =
    let same : length set ≡ length s = ap (λ (xs : List ℕ). get_or xs 0 0) e in
    let rest : map length row ≡ map length other = ap (λ (xs : List ℕ). drop 1 xs) e in
    elim (cases_lt n (length set)) [
      | inl h ↦ get_or_append_left s (in_order other) false n (omega (arith, h, same)) ∙ all 0 n (sym (get_or_append_left set (in_order row) false n h) ∙ on)
      | inr h ↦ get_or-append_right s (in_order other) (length s) n false refl (omega (arith, h, same)) ∙ ap (λ k. get_or (in_order other) (n - k) false) (sym same)
          ∙ in_order_leq row other rest (λ l c. all (suc l) c) (n - length set) (sym (get_or-append_right set (in_order row) (length set) n false refl h) ∙ on)
    ]

-- the words of a row

past_word : (row : Sets) (k i : ℕ) → 64 ≤ i → bit (row_word row k) i ≡ false
past_word row k i h = bit_number (take 64 (drop (64 * k) (in_order row))) i ∙ get_or_past (take 64 (drop (64 * k) (in_order row))) i false (omega (arith, h, length-take 64 (drop (64 * k) (in_order row))))

-- a greater row has greater words
pub word_leq : (row other : Sets) → map length row ≡ map length other → normalized row ≡ row → Leq row other → (k : ℕ) → WordLeq (row_word row k) (row_word other k)
word_leq row other e is leq k = leq_of_bits (row_word row k) (row_word other k) at
  where
    bits : (live : Bool) → is_live row ≡ live → (n : ℕ) → get_or (in_order row) n false ≡ true → get_or (in_order other) n false ≡ true
    bits true l n on = in_order_leq row other e (leq l).1 n on
    bits false l n on = absurd (let none : true ≡ false = sym on ∙ ap (λ x. get_or (in_order x) n false) (sym is ∙ ap (λ b. cond b row (emptied row)) l) ∙ emptied_in_order row n in cc)

    at : (i : ℕ) → bit (row_word row k) i ≡ true → bit (row_word other k) i ≡ true
    at i on = elim (cases_lt i 64) [
      | inl h ↦ bit_row_word other k i h ∙ bits (is_live row) refl (64 * k + i) (sym (bit_row_word row k i h) ∙ on)
      | inr h ↦ absurd (let none : true ≡ false = sym on ∙ past_word row k i h in cc)
    ]

pub length-words : (u : Listing) (row : Sets) → length (words_of_row u row) ≡ word_count u
length-words u row = length-map-range_with_len (row_word row) 0 (word_count u)

pub word_at : (u : Listing) (row : Sets) (k : ℕ) → k < word_count u → get_or (words_of_row u row) k 0 ≡ row_word row k
word_at u row k h = get_or-map-range_with_len (row_word row) 0 (word_count u) k k 0 h (omega arith)

-- rows of words

-- of rows of one shape, before the empty ones are emptied
normalized_leq : (row other : Sets) → 0 < length row → length row ≡ length other → ((l c : ℕ) → holds row l c ≡ true → holds other l c ≡ true) → Leq (normalized row) (normalized other)
normalized_leq row other some e all = by (is_live row) refl
  where
    by : (live : Bool) → is_live row ≡ live → Leq (normalized row) (normalized other)
    by true l =
        let there : is_live other ≡ true = live_more row other e all l in
        let P : Sets → Type 0 = λ x. Leq x (normalized other) in
        let Q : Sets → Type 0 = λ x. Leq row x in
        subst P (sym (normalized_live row l)) (subst Q (sym (normalized_live other there)) (λ live. (there, all)))
    by false l = leq_dead (normalized row) (normalized other) (ap (λ b. is_live (cond b row (emptied row))) l ∙ emptied_dead row some)

module _ (u : Listing) (some : 0 < length (class_counts u)) where
  pub shape_of_words : (words : List ℕ) → IsRow u (row_of_words u words)
  shape_of_words words =
      let row : Sets = cut (class_counts u) (bits_of words (class_count u)) in (
        shape_normalized row ∙ shape_cut (class_counts u) (bits_of words (class_count u)) (omega (arith, length_bits words (class_count u))),
        normalized_twice row,
      )

  -- greater words are those of a greater row
  pub words_leq : (xs ys : List ℕ) → WordsLeq xs ys → Leq (row_of_words u xs) (row_of_words u ys)
  words_leq xs ys leq =
      let counts = class_counts u in
      let n = class_count u in
      let a : Sets = cut counts (bits_of xs n) in
      let b : Sets = cut counts (bits_of ys n) in
      let shape : map length a ≡ counts = shape_cut counts (bits_of xs n) (omega (arith, length_bits xs n)) in
      normalized_leq a b (omega (arith, some, length-cut counts (bits_of xs n))) (length-cut counts (bits_of xs n) ∙ sym (length-cut counts (bits_of ys n)))
      (λ l c on.
      let w = holds_within a l c on in
      let h : l < length counts = omega (arith, w.0, length-cut counts (bits_of xs n)) in
      let k : c < get_or counts l 0 = omega (arith, w.1, count_at a counts l shape w.0) in
      let m : ℕ = start counts l + c in
      let within : m < n = omega (arith, k, start_within counts l h) in
      holds-cut counts (bits_of ys n) l c h k ∙ get_bits ys n m false within
      ∙ bits_of_leq (get_or xs (m / 64) 0) (get_or ys (m / 64) 0) (leq.at (m / 64)) (m % 64) (sym (get_bits xs n m false within) ∙ sym (holds-cut counts (bits_of xs n) l c h k) ∙ on))

  -- a row of words that are those of a row
  pub words_back : (row : Sets) → IsRow u row → row_of_words u (words_of_row u row) ≡ row
  words_back row is =
      let n = class_count u in
      let words = words_of_row u row in
      let long : length (in_order row) ≡ n = length-in_order row ∙ ap sum is.0 in
      let bits : bits_of words n ≡ in_order row = ext_get_or false (bits_of words n) (in_order row) (length_bits words n ∙ sym long) (λ i h.
      let within : i < n = omega (arith, h, length_bits words n) in
      let place : 64 * (i / 64) + i % 64 ≡ i = omega (arith, div-add-mod i 64) in
      get_bits words n i false within ∙ ap (λ w. bit w (i % 64)) (word_at u row (i / 64) (omega (arith, within, div-add-mod i 64, div-add-mod (n + 63) 64)))
      ∙ bit_row_word row (i / 64) (i % 64) (omega (arith, div-add-mod i 64)) ∙ ap (λ j. get_or (in_order row) j false) place) in
      ap (λ xs. normalized (cut (class_counts u) xs)) bits ∙ ap (λ counts. normalized (cut counts (in_order row))) (sym is.0) ∙ ap normalized (cut_back row) ∙ is.1

  -- a row whose words lie in words
  pub leq_words : (row : Sets) (words : List ℕ) → IsRow u row → ((k : ℕ) → k < word_count u → WordLeq (row_word row k) (get_or words k 0)) → Leq row (row_of_words u words)
  leq_words row words is all =
      let P : Sets → Type 0 = λ x. Leq x (row_of_words u words) in
      subst P (words_back row is) (words_leq (words_of_row u row) words record {
        at = λ k. elim (cases_lt k (word_count u)) [
          | inl h ↦ (let Q : ℕ → Type 0 = λ w. WordLeq w (get_or words k 0) in subst Q (sym (word_at u row k h)) (all k h))
          | inr h ↦ (let Q : ℕ → Type 0 = λ w. WordLeq w (get_or words k 0) in subst Q (sym (get_or_past (words_of_row u row) k 0 (omega (arith, h, length-words u row)))) (zero_leq (get_or words k 0)))
        ];
      })
