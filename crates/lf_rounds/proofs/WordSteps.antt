-- Words of which one is raised, and what a piece stores over greater words.
use Rattle.std.proofs.Common.{◌≡◌, ℕ, suc, ◌<◌, List, [], ◌∷◌, ◌++◌, length, get_or, set, bit_or, Option, Some, None, refl, sym, ◌∙◌, subst, arith, get_or-set_same, get_or-set_other, length-set}
use Rattle.std.specs.Option.{option_map_or}
use Rattle.std.proofs.lemmas.Nat.Bits.{bit_at_or, same_from_bits}
use mathlib.Core.Logic.{dite}
use native.Mathlib.Decide.{ℕ_discrete}
use Rattle.lf_laws.proofs.Members.{all_append}
use Rattle.lf_ast.specs.Rules.{RuleTree}
use Rattle.lf_classes.specs.RowWords.{WordLeq, WordsLeq, row_word}
use Rattle.lf_classes.proofs.RowWordOrder.{word_leq, word_refl, word_trans, words_trans}
use Rattle.lf_semantics.specs.Environments.{recorded_row}
use Rattle.lf_semantics.proofs.NormalizedRows.{recorded_row_is}
use Rattle.lf_semantics.proofs.RowsGrow.{recorded_grows}
use Rattle.lf_rounds.specs.declared.rule.Done.{Done}
use Rattle.lf_rounds.specs.declared.rule.Load.{Load}
use Rattle.lf_rounds.specs.Rounds.{AllDone, Stands, noted}
use Rattle.lf_rounds.specs.Tasks.{IsTask, Task, names, place_of, rule_of, stands_for, stored_word, width}
use Rattle.lf_rounds.proofs.Environments.{environment_leq, words_of_rules}

-- ors

pub or_left : (a b : ℕ) → WordLeq a (bit_or a b)
or_left a b i = omega (arith, bit_at_or a b i)

pub or_right : (a b : ℕ) → WordLeq b (bit_or a b)
or_right a b i = omega (arith, bit_at_or a b i)

pub or_least : (a b c : ℕ) → WordLeq a c → WordLeq b c → WordLeq (bit_or a b) c
or_least a b c p q i = omega (arith, bit_at_or a b i, p i, q i)

both_leq : (a b : ℕ) → WordLeq a b → WordLeq b a → a ≡ b
both_leq a b p q = same_from_bits a b (λ i. omega (arith, p i, q i))

pub same_words : (xs ys : List ℕ) → length xs ≡ length ys → WordsLeq xs ys → WordsLeq ys xs → xs ≡ ys
same_words [] [] l p q = refl
same_words [] (y ∷ ys) l p q = absurd (omega arith)
same_words (x ∷ xs) [] l p q = absurd (omega arith)
same_words (x ∷ xs) (y ∷ ys) l p q =
    let first = both_leq x y (p.at 0) (q.at 0) in
    let rest = same_words xs ys (omega arith) record { at = λ k. p.at (suc k) } record { at = λ k. q.at (suc k) } in
    cc

-- a word after a write at i: that of the value, or the old one
set_word : (xs : List ℕ) (i k x : ℕ) (P : ℕ → Type 0) → i < length xs → (k ≡ i → P x) → P (get_or xs k 0) → P (get_or (set xs i x) k 0)
set_word xs i k x P l here there = dite (ℕ_discrete k i)
    (λ e. subst (λ z. P (get_or (set xs i x) z 0)) (sym e) (subst P (sym (get_or-set_same xs i x 0 l)) (here e)))
    (λ ne. subst P (sym (get_or-set_other xs i k x 0 ne)) there)

pub set_left : (xs ys : List ℕ) (i x : ℕ) → i < length xs → WordsLeq xs ys → WordLeq x (get_or ys i 0) → WordsLeq (set xs i x) ys
set_left xs ys i x l p s = record { at = λ k. set_word xs i k x (λ z. WordLeq z (get_or ys k 0)) l (λ e. subst (λ z. WordLeq x (get_or ys z 0)) (sym e) s) (p.at k) }

pub set_right : (xs ys : List ℕ) (i x : ℕ) → i < length ys → WordsLeq xs ys → WordLeq (get_or xs i 0) x → WordsLeq xs (set ys i x)
set_right xs ys i x l p s = record { at = λ k. set_word ys i k x (λ z. WordLeq (get_or xs k 0) z) l (λ e. subst (λ z. WordLeq (get_or xs z 0) x) (sym e) s) (p.at k) }

pub length-noted : (start : List ℕ) (loads : List Load) → length (noted start loads) ≡ length start
length-noted start [] = refl
length-noted start (l ∷ loads) = length-set (noted start loads) l.place l.word ∙ length-noted start loads

-- what a piece stores

by_rule : (f : RuleTree → ℕ) (P : ℕ → Type 0) (o : Option RuleTree) → P 0 → ((r : RuleTree) → o ≡ Some r → P (f r)) → P (option_map_or f o 0)
by_rule f P None none some = none
by_rule f P (Some r) none some = some r refl

module _ (t : Task) (is : IsTask t) where
  -- it grows with the words
  pub stored_grows : (p : ℕ) (xs ys : List ℕ) (j : ℕ) → WordsLeq xs ys → WordLeq (stored_word t p xs j) (stored_word t p ys j)
  stored_grows p xs ys j leq = by (rule_of t p)
    where
      by : (o : Option RuleTree) → WordLeq (option_map_or (λ r. row_word (recorded_row t.universe (stands_for t xs) r) j) o 0) (option_map_or (λ r. row_word (recorded_row t.universe (stands_for t ys) r) j) o 0)
      by None = word_refl 0
      by (Some r) =
          let u = t.universe in
          let env = stands_for t xs in
          let other = stands_for t ys in
          let ok = (words_of_rules u is.listing t.rules xs is.covers).environment in
          let ok' = (words_of_rules u is.listing t.rules ys is.covers).environment in
          let a = recorded_row_is u is.listing env ok r in
          let b = recorded_row_is u is.listing other ok' r in
          word_leq (recorded_row u env r) (recorded_row u other r) (a.0 ∙ sym b.0) a.1 (recorded_grows u is.listing env other ok ok' (environment_leq u is.listing (names t) xs ys leq) r) j

-- what was so stays so where the words grow
pub stands_on : (t : Task) (words now : List ℕ) (p : ℕ) (loads : List Load) (n : ℕ) → WordsLeq words now → Stands t words p loads n → Stands t now p loads n
stands_on t words now p loads n up h =
    let seen = noted t.start loads in
    (h.0, words_trans seen words now h.1 up, λ j l. word_trans (stored_word t p seen j) (get_or words (place_of t p j) 0) (get_or now (place_of t p j) 0) (h.2 j l) (up.at (place_of t p j)))

pub done_on : (t : Task) (words now : List ℕ) (ds : List Done) → WordsLeq words now → AllDone t words ds → AllDone t now ds
done_on t words now [] up h = tt
done_on t words now (d ∷ ds) up h = (stands_on t words now d.piece d.loads (width t) up h.0, done_on t words now ds up h.1)

pub done_append : (t : Task) (words : List ℕ) (ds es : List Done) → AllDone t words ds → AllDone t words es → AllDone t words (ds ++ es)
done_append t words ds es p q = all_append (λ (d : Done). Stands t words d.piece d.loads (width t)) ds es p q
