-- Which classes of a label pass a matcher.
use Rattle.std.proofs.Common.{◌≡◌, ◌≢◌, ℕ, zero, suc, ◌+◌, ◌<◌, Bool, true, false, not, ◌&&◌, cond, eqb, nat_lt, List, [], length, get_or, inl, inr, refl, sym, ◌∙◌, ap, subst, arith}
use Rattle.std.proofs.Math.ListN.{set}
use Rattle.std.specs.Prelude.{replicate}
use Rattle.std.proofs.lemmas.Bool.{cases_eq}
use Rattle.std.proofs.lemmas.Bool.Decides.{Decides-eqb, nat_tests}
use Rattle.std.proofs.lemmas.List.{get_or_default, get_or-replicate, get_or-set_other, get_or-set_same, length-replicate}
use Rattle.std.proofs.lemmas.List.Sums.{position_or_len_is}
use Rattle.std.specs.Str.{bytes_eq}
use Rattle.lf_ast.specs.Labels.{Bytes}
use Rattle.lf_ast.specs.declared.expr.MatchOp.TheVariants.{Equal, NotEqual, NotMatches}
use Rattle.lf_pattern.specs.Matching.{IsRead, is_read, matches}
use Rattle.lf_semantics.specs.Listing.{IsListing, Listing, class_of, class_texts, named_at, other_class}
use Rattle.lf_semantics.specs.RowTable.{may_fail, passes_class, text_of}
use Rattle.std.proofs.Math.Bool.{and-false}
use Rattle.lf_laws.proofs.Members.{other_false, same_true}
use Rattle.lf_semantics.proofs.Places.{class_test, eqb-other}
use Rattle.lf_semantics.proofs.PatternFaults.{unread_is}
use Rattle.lf_classes.proofs.Unread.{read_passes, unread_passes}
use Rattle.lf_flow.specs.views.ClassSets.{IsSet}
use Rattle.lf_flow.proofs.PatternSets.{retested}

-- one class that differs from the others
pub get_one : (n k c : ℕ) (before on : Bool) → k < n → c < n → get_or (set (replicate n before) k on) c false ≡ cond (eqb k c) on before
get_one n k c before on h j =
    let b : k < length (replicate n before) = omega (arith, length-replicate n before) in
    elim (cases_eq k c) [
      | inl e ↦ (let q : eqb k c ≡ true = (Decides-eqb k c).1 e in rw q (ap (λ m. get_or (set (replicate n before) k on) m false) (sym e) ∙ get_or-set_same (replicate n before) k on false b))
      | inr d ↦ (let q : eqb k c ≡ false = eqb-other k c d in rw q (get_or-set_other (replicate n before) k c on false (λ e. d (sym e)) ∙ get_or-replicate n c before false j))
    ]

not_last : (c k other : ℕ) → k ≡ other → (nat_lt c other && eqb c k) ≡ false
not_last c k other e = elim (cases_eq c k) [
  | inl f ↦ (let q : nat_lt c other ≡ false = grind (arith, nat_tests) in rw q refl)
  | inr d ↦ (let q : eqb c k ≡ false = eqb-other c k d in rw q (and-false (nat_lt c other)))
]

one_own : (c k other : ℕ) → k < other → (nat_lt c other && eqb c k) ≡ eqb c k
one_own c k other h = elim (cases_eq c k) [
  | inl e ↦ (let q : nat_lt c other ≡ true = grind (arith, nat_tests) in rw q refl)
  | inr d ↦ (let r : eqb c k ≡ false = eqb-other c k d in rw r (and-false (nat_lt c other)))
]

module _ (u : Listing) (p : IsListing u) (label : ℕ) where
  apart : (k l : ℕ) → k < l → l < length (class_texts u label) → get_or (class_texts u label) k [] ≢ get_or (class_texts u label) l []
  apart k zero h b = absurd (omega arith)
  apart zero (suc l) h b = λ e.
      let text = get_or (named_at u label) l [] in
      let within : l < length (named_at u label) = omega arith in
      p.texts_some label text (l, within, get_or_default (named_at u label) l text [] within) (sym e)
  apart (suc k) (suc l) h b = p.texts_distinct label k l (omega arith) (omega arith)

  -- the class of the text of a class is this class
  own_class : (c : ℕ) → c < other_class u label → class_of u label (text_of u label c) ≡ c
  own_class c h =
      let texts = class_texts u label in
      position_or_len_is (λ x. bytes_eq x (get_or texts c [])) texts c [] (omega arith) (λ k b. other_false _ _ (apart k c b (omega arith))) (λ b. same_true (get_or texts c []) _ refl)

  pub test_own : (text : Bytes) (c : ℕ) → c < other_class u label → bytes_eq (text_of u label c) text ≡ eqb c (class_of u label text)
  test_own text c h =
      let e = own_class c h in
      let P : ℕ → Type 0 = λ k. k < other_class u label in
      sym (class_test u label (text_of u label c) text (subst P (sym e) h)) ∙ ap (λ k. eqb k (class_of u label text)) e

  equal_at : (text : Bytes) (c : ℕ) → passes_class u Equal text label c ≡ (nat_lt c (other_class u label) && eqb c (class_of u label text))
  equal_at text c = by (nat_lt c (other_class u label)) refl
    where
      by : (b : Bool) → nat_lt c (other_class u label) ≡ b → cond (not b) false (bytes_eq (text_of u label c) text) ≡ (b && eqb c (class_of u label text))
      by true e = let h : c < other_class u label = grind (arith, nat_tests) in test_own text c h
      by false e = refl

  unequal_at : (text : Bytes) (c : ℕ) → passes_class u NotEqual text label c ≡ not (nat_lt c (other_class u label) && eqb c (class_of u label text))
  unequal_at text c = by (nat_lt c (other_class u label)) refl
    where
      by : (b : Bool) → nat_lt c (other_class u label) ≡ b → cond (not b) true (not (bytes_eq (text_of u label c) text)) ≡ not (b && eqb c (class_of u label text))
      by true e = let h : c < other_class u label = grind (arith, nat_tests) in ap not (test_own text c h)
      by false e = refl

  abbrev size : ℕ
  size = length (named_at u label) + 2

  module _ (text : Bytes) (n k : ℕ) (count : n ≡ size) (class : k ≡ class_of u label text) where
    -- a text that is no class of its own
    module _ (last : k + 1 ≡ n) where
      none_at : (c : ℕ) → (nat_lt c (other_class u label) && eqb c (class_of u label text)) ≡ false
      none_at c = ap (λ m. nat_lt c (other_class u label) && eqb c m) (sym class) ∙ not_last c k (other_class u label) (omega (arith, last, count))

      pub none_equal : (c : ℕ) → passes_class u Equal text label c ≡ false
      none_equal c = equal_at text c ∙ none_at c

      pub all_unequal : (c : ℕ) → passes_class u NotEqual text label c ≡ true
      all_unequal c = unequal_at text c ∙ ap not (none_at c)

    -- and one that is
    module _ (own : k + 1 < n) where
      one_at : (c : ℕ) → (nat_lt c (other_class u label) && eqb c (class_of u label text)) ≡ eqb c k
      one_at c = ap (λ m. nat_lt c (other_class u label) && eqb c m) (sym class) ∙ one_own c k (other_class u label) (omega (arith, own, count))

      pub one_equal : (c : ℕ) → passes_class u Equal text label c ≡ eqb c k
      one_equal c = equal_at text c ∙ one_at c

      pub others_unequal : (c : ℕ) → passes_class u NotEqual text label c ≡ not (eqb c k)
      others_unequal c = unequal_at text c ∙ ap not (one_at c)

module _ (u : Listing) (label : ℕ) (pattern : Bytes) where
  -- what fails a pattern passes its `!~`
  pub fails_pass : (on : List Bool) → IsRead pattern → IsSet (length (named_at u label) + 2) (may_fail u pattern label) on → IsSet (length (named_at u label) + 2) (passes_class u NotMatches pattern label) on
  fails_pass on read set = retested _ _ _ on (λ c h. by c (nat_lt c (other_class u label)) refl) set
    where
      by : (c : ℕ) (b : Bool) → nat_lt c (other_class u label) ≡ b
          → cond (not b) true (not (matches pattern (text_of u label c))) ≡ cond (not b) true (is_read pattern && not (matches pattern (text_of u label c)))
      by c true e = sym (read_passes pattern (text_of u label c) read)
      by c false e = refl

  -- what is no pattern passes none but 'any other text'
  pub unread_pass : (n : ℕ) (on : List Bool) → n ≡ length (named_at u label) + 2 → (IsRead pattern → ⊥) → IsSet n (λ class. eqb (class + 1) n && true) on
      → IsSet (length (named_at u label) + 2) (passes_class u NotMatches pattern label) on
  unread_pass n on count none set =
      let P : ℕ → Type 0 = λ m. IsSet m (λ class. eqb (class + 1) m && true) on in
      retested _ _ _ on (λ c h. by c h (nat_lt c (other_class u label)) refl) (subst P count set)
    where
      by : (c : ℕ) → c < length (named_at u label) + 2 → (b : Bool) → nat_lt c (other_class u label) ≡ b
          → (eqb (c + 1) (length (named_at u label) + 2) && true) ≡ cond (not b) true (is_read pattern && not (matches pattern (text_of u label c)))
      by c h true e =
          let q : eqb (c + 1) (length (named_at u label) + 2) ≡ false = grind (arith, nat_tests) in
          rw q (sym (unread_passes pattern (text_of u label c) ((unread_is pattern).1 none)))
      by c h false e = let q : eqb (c + 1) (length (named_at u label) + 2) ≡ true = grind (arith, nat_tests) in rw q refl
