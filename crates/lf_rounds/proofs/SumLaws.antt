-- Words that only grew are the same where their sums are.
use Rattle.std.proofs.Common.{◌≡◌, ℕ, ◌+◌, ◌*◌, ◌≤◌, List, [], ◌∷◌, length, get_or, take, drop, refl, sym, ◌∙◌, ap, subst, ⊎_elim, arith, length-drop}
use Rattle.std.specs.List.{Contains, sum}
use Rattle.std.proofs.lemmas.List.{length-take}
use Rattle.std.proofs.lemmas.List.Sums.{sum_by-cons}
use Rattle.std.proofs.lemmas.Nat.{le_or_l}
use Rattle.std.proofs.lemmas.Nat.Bits.{bit_at_or, same_from_bits}
use Rattle.std.specs.Prelude.{bit_or}
use Rattle.lf_ast.specs.Rules.{RuleTree}
use Rattle.lf_classes.specs.RowWords.{WordLeq, WordsLeq, row_of_words, row_word, word_count}
use Rattle.lf_classes.proofs.RowWordOrder.{word_trans, words_trans}
use Rattle.lf_flow.proofs.ReadNumbers.{equal_rows}
use Rattle.lf_laws.proofs.Members.{first_or_behind, none_in}
use Rattle.lf_semantics.specs.ClassRows.{Sets}
use Rattle.lf_semantics.specs.Environments.{recorded_names, recorded_row}
use Rattle.lf_semantics.specs.Listing.{IsListing, Listing, place}
use Rattle.lf_semantics.specs.RowTable.{row_of}
use Rattle.lf_rounds.specs.Sums.{sum_of_row, sum_of_rows}
use Rattle.lf_rounds.specs.Tasks.{AreReadBy, WordsHoldRule}
use Rattle.lf_rounds.specs.Words.{environment_of}
use Rattle.lf_rounds.specs.views.Noting.{IsRemembered}
use Rattle.lf_rounds.proofs.Bits.{rest_leq}
use Rattle.lf_rounds.proofs.Environments.{drop_leq, names_of_words, take_leq}
use Rattle.lf_rounds.proofs.Reading.{row_at}
use Rattle.lf_rounds.proofs.Working.{stored_by_row}

word_le : (a b : ℕ) → WordLeq a b → a ≤ b
word_le a b h =
    let both : bit_or a b ≡ b = same_from_bits (bit_or a b) b (λ i. omega (arith, bit_at_or a b i, h i)) in
    omega (arith, both, le_or_l a b)

sum_leq : (xs ys : List ℕ) → length xs ≡ length ys → WordsLeq xs ys → sum xs ≤ sum ys
sum_leq [] [] l leq = omega arith
sum_leq [] (y ∷ ys) l leq = absurd (omega arith)
sum_leq (x ∷ xs) [] l leq = absurd (omega arith)
sum_leq (x ∷ xs) (y ∷ ys) l leq =
    omega (arith, word_le x y (leq.at 0), sum_leq xs ys (omega arith) (rest_leq x y xs ys leq), sum_by-cons (λ (n : ℕ). n) x xs, sum_by-cons (λ (n : ℕ). n) y ys)

pub same_by_sum : (xs ys : List ℕ) → length xs ≡ length ys → WordsLeq xs ys → sum xs ≡ sum ys → xs ≡ ys
same_by_sum [] [] l leq e = refl
same_by_sum [] (y ∷ ys) l leq e = absurd (omega arith)
same_by_sum (x ∷ xs) [] l leq e = absurd (omega arith)
same_by_sum (x ∷ xs) (y ∷ ys) l leq e =
    let rest = rest_leq x y xs ys leq in
    let a = word_le x y (leq.at 0) in
    let b = sum_leq xs ys (omega arith) rest in
    let c = sum_by-cons (λ (n : ℕ). n) x xs in
    let d = sum_by-cons (λ (n : ℕ). n) y ys in
    let first : x ≡ y = omega (arith, a, b, c, d, e) in
    let others : xs ≡ ys = same_by_sum xs ys (omega arith) rest (omega (arith, a, b, c, d, e)) in
    cc

module _ (wide : ℕ) (xs ys : List ℕ) (len : length xs ≡ length ys) (leq : WordsLeq xs ys) where
  part_len : (n : ℕ) → length (take wide (drop (n * wide) xs)) ≡ length (take wide (drop (n * wide) ys))
  part_len n = omega (arith, len, length-take wide (drop (n * wide) xs), length-take wide (drop (n * wide) ys), length-drop (n * wide) xs, length-drop (n * wide) ys)

  part_leq : (n : ℕ) → WordsLeq (take wide (drop (n * wide) xs)) (take wide (drop (n * wide) ys))
  part_leq n = take_leq wide (drop (n * wide) xs) (drop (n * wide) ys) (drop_leq (n * wide) xs ys leq)

  row_leq : (n : ℕ) → sum_of_row wide xs n ≤ sum_of_row wide ys n
  row_leq n = sum_leq (take wide (drop (n * wide) xs)) (take wide (drop (n * wide) ys)) (part_len n) (part_leq n)

  rows_leq : (numbers : List ℕ) → sum_of_rows wide xs numbers ≤ sum_of_rows wide ys numbers
  rows_leq [] = omega arith
  rows_leq (n ∷ numbers) = omega (arith, row_leq n, rows_leq numbers, sum_by-cons (sum_of_row wide xs) n numbers, sum_by-cons (sum_of_row wide ys) n numbers)

  pub rows_same : (numbers : List ℕ) → sum_of_rows wide xs numbers ≡ sum_of_rows wide ys numbers → (m : ℕ) → Contains numbers m → take wide (drop (m * wide) xs) ≡ take wide (drop (m * wide) ys)
  rows_same [] e m c = absurd (none_in m c)
  rows_same (n ∷ numbers) e m c =
      let a = row_leq n in
      let b = rows_leq numbers in
      let f = sum_by-cons (sum_of_row wide xs) n numbers in
      let g = sum_by-cons (sum_of_row wide ys) n numbers in
      let here : sum_of_row wide xs n ≡ sum_of_row wide ys n = omega (arith, a, b, e, f, g) in
      let rest : sum_of_rows wide xs numbers ≡ sum_of_rows wide ys numbers = omega (arith, a, b, e, f, g) in
      ⊎_elim
      (λ (same : n ≡ m). let P : ℕ → Type 0 = λ k. take wide (drop (k * wide) xs) ≡ take wide (drop (k * wide) ys) in
      subst P same (same_by_sum (take wide (drop (n * wide) xs)) (take wide (drop (n * wide) ys)) (part_len n) (part_leq n) here))
      (λ (d : Contains numbers m). rows_same numbers rest m d)
      (first_or_behind n numbers m c)

module _ (u : Listing) (p : IsListing u) (rules : List RuleTree) (r : RuleTree) (numbers : List ℕ) (s : ℕ) where
  -- what was so stays so where the words grow
  pub remembered_on : (words now : List ℕ) → length now ≡ length words → WordsLeq words now → IsRemembered u rules words r numbers s → IsRemembered u rules now r numbers s
  remembered_on words now len up m = record {
    seen = m.seen;
    wide = m.wide ∙ sym len;
    leq = words_trans m.seen words now m.leq up;
    held = λ j h.
        (let at = place (recorded_names rules) r.name * word_count u + j in
        word_trans (row_word (recorded_row u (environment_of u (recorded_names rules) m.seen) r) j) (get_or words at 0) (get_or now at 0) (m.held j h) (up.at at));
    summed = m.summed;
  }

  -- a rule whose rows are as they were when it was computed is held
  pub held_now : (words : List ℕ) → AreReadBy rules r numbers → IsRemembered u rules words r numbers s → s ≡ sum_of_rows (word_count u) words numbers → WordsHoldRule u rules words words r
  held_now words read m e j h =
      let ns = recorded_names rules in
      let before = environment_of u ns m.seen in
      let now = environment_of u ns words in
      let named = names_of_words u p ns m.seen in
      let same = rows_same (word_count u) m.seen words m.wide m.leq numbers (sym m.summed ∙ e) in
      let equal : row_of u before r.expr ≡ row_of u now r.expr =
      equal_rows before r.expr numbers (read.all before named) u now
      (named ∙ sym (names_of_words u p ns words), λ k c. row_at u ns m.seen k (read.within k c) ∙ ap (row_of_words u) (same k c) ∙ sym (row_at u ns words k (read.within k c))) in
      let at = place ns r.name * word_count u + j in
      let P : Sets → Type 0 = λ row. WordLeq (row_word row j) (get_or words at 0) in
      subst P (stored_by_row u before now r equal) (m.held j h)
