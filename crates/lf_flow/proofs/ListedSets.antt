-- The classes of texts that are looked up, and what is no pattern.
use Rattle.std.proofs.Common.{◌≡◌, ◌≢◌, ℕ, ◌+◌, ◌<◌, Bool, true, false, not, ◌&&◌, ◌||◌, eqb, nat_lt, List, length, get_or, take, is_some, ◌⊎◌, inl, inr, refl, sym, ◌∙◌, ap, arith, length-set, true≢false}
use Rattle.std.proofs.Math.ListN.{set}
use Rattle.std.proofs.Math.Path.{fun_ext}
use Rattle.std.specs.Prelude.{replicate}
use Rattle.std.specs.List.{list_any}
use Rattle.std.specs.Str.{bytes_eq}
use Rattle.std.proofs.lemmas.Bool.{cases_eq, or_right}
use Rattle.std.proofs.lemmas.Bool.Decides.{Decides-eqb, nat_tests}
use Rattle.std.proofs.lemmas.List.{get_or-replicate, get_or-set_other, get_or-set_same, length-replicate}
use Rattle.std.proofs.lemmas.List.Folds.{list_any_more}
use Rattle.lf_ast.specs.Labels.{Bytes}
use Rattle.lf_pattern.specs.Matching.{is_read}
use Rattle.lf_pattern.specs.Read.{reading}
use Rattle.std.proofs.Math.Bool.{and-true, and-false, or-false}
use Rattle.lf_semantics.specs.Listing.{IsListing, Listing, class_of, named_at, other_class}
use Rattle.lf_semantics.specs.Passing.{is_plain}
use Rattle.lf_semantics.specs.RowTable.{text_of}
use Rattle.lf_semantics.proofs.Places.{eqb-other}
use Rattle.lf_ast.proofs.LabelOrders.{symmetric}
use Rattle.lf_flow.specs.views.ClassSets.{IsSet, is_listed}
use Rattle.lf_flow.proofs.ClassSets.{eqb-turn}
use Rattle.lf_flow.proofs.MatcherSets.{test_own}
use Rattle.lf_flow.proofs.PatternSets.{retested}
use Rattle.lf_flow.proofs.Selected.{put_off}

-- before any text
pub none_on : (n : ℕ) (on : List Bool) → on ≡ replicate n false → IsSet n (λ c. false) on
none_on n on is = record {
  count = ap length is ∙ length-replicate n false;
  each = λ c h. ap (λ xs. get_or xs c false) is ∙ get_or-replicate n c false false h;
}

put_on : (n k : ℕ) (test : ℕ → Bool) (on : List Bool) → k < n → IsSet n test on → IsSet n (λ c. test c || eqb k c) (set on k true)
put_on n k test on h s = record {
  count = length-set on k true ∙ s.count;
  each = λ c b. by c b (cases_eq k c);
}
  where
    by : (c : ℕ) → c < n → (k ≡ c) ⊎ (k ≢ c) → get_or (set on k true) c false ≡ (test c || eqb k c)
    by c b (inl e) =
        ap (λ m. get_or (set on k true) m false) (sym e) ∙ get_or-set_same on k true false (omega (arith, s.count)) ∙ sym (or_right (test c) true refl) ∙ ap (λ x. test c || x) (sym ((Decides-eqb k c).1 e))
    by c b (inr d) = get_or-set_other on k c true false (λ e. d (sym e)) ∙ s.each c b ∙ sym (or-false (test c)) ∙ ap (λ x. test c || x) (sym (eqb-other k c d))

module _ (u : Listing) (label : ℕ) where
  abbrev pub is_class : ℕ → Bytes → Bool
  is_class c text = eqb (class_of u label text) c

  -- the class of one more text
  pub listed_more : (n k i : ℕ) (text : Bytes) (texts : List Bytes) (on : List Bool) → i < length texts → text ≡ get_or texts i text → k ≡ class_of u label text → k < n
      → IsSet n (λ c. list_any (is_class c) (take i texts)) on → IsSet n (λ c. list_any (is_class c) (take (i + 1) texts)) (set on k true)
  listed_more n k i text texts on h is e b s =
      retested n _ _ (set on k true)
      (λ c j. ap (λ m. list_any (is_class c) (take i texts) || eqb m c) e
      ∙ ap (λ x. list_any (is_class c) (take i texts) || is_class c x) is
      ∙ sym (list_any_more (is_class c) texts i text h))
      (put_on n k _ on b s)

  -- 'any other text' is taken out at the end
  pub listed_set : IsListing u → (n k : ℕ) (texts : List Bytes) (on : List Bool) → n ≡ length (named_at u label) + 2 → k + 1 ≡ n
      → IsSet n (λ c. list_any (is_class c) texts) on → IsSet n (is_listed u label texts) (set on k false)
  listed_set p n k texts on count last s =
      retested n _ _ (set on k false) (λ c h. by c h (nat_lt c (other_class u label)) refl) (put_off n k _ on (omega (arith, last)) s)
    where
      by : (c : ℕ) → c < n → (b : Bool) → nat_lt c (other_class u label) ≡ b
          → (list_any (is_class c) texts && not (eqb k c)) ≡ (b && list_any (λ text. bytes_eq text (text_of u label c)) texts)
      by c h true e =
          let own : c < other_class u label = grind (arith, nat_tests) in
          let q : eqb k c ≡ false = grind (arith, nat_tests, own, last, count) in
          rw q
          (and-true (list_any (is_class c) texts)
          ∙ ap (λ (test : Bytes → Bool). list_any test texts) (fun_ext
          (λ text. eqb-turn (class_of u label text) c ∙ sym (test_own u p label text c own) ∙ symmetric (text_of u label c) text)))
      by c h false e = let q : eqb k c ≡ true = grind (arith, nat_tests, e, h, last, count) in rw q (and-false (list_any (is_class c) texts))

-- ---- what is said of a pattern

module _ (u : Listing) (label : ℕ) (pattern : Bytes) where
  -- what is no pattern isn't plain
  pub unread_other : is_read pattern ≡ false → true ≡ not (is_plain pattern)
  unread_other = by (is_plain pattern)
    where
      by : (b : Bool) → (b || is_some (reading pattern)) ≡ false → true ≡ not b
      by true e = absurd (true≢false e)
      by false e = refl
