-- The samples that are chosen are those of `AreSamples`.
use Rattle.std.proofs.Common.{◌≡◌, ◌≢◌, ℕ, Bool, true, false, cond, ◌||◌, ◌&&◌, not, nat_lt, nat_le, nat_eq, List, [], ◌∷◌, ◌++◌, length, Option, Some, None, refl, sym, ap, ap₂, subst, ◌∙◌, arith, inl, inr, true≢false, All}
use Rattle.std.specs.List.{list_any, filter}
use Rattle.std.specs.Option.{option_map_or}
use Rattle.std.specs.Str.{bytes_eq, chars}
use Rattle.std.proofs.Math.Bool.{and-false}
use Rattle.std.proofs.lemmas.Bool.{cases_Bool, and_parts, cond-true, cond-false, false_from_ne_true}
use Rattle.std.proofs.lemmas.Bool.Decides.{nat_tests}
use Rattle.std.proofs.lemmas.Option.{none-some}
use Rattle.std.proofs.lemmas.Slice.Eq.{bytes_eq-Decides}
use Rattle.std.proofs.lemmas.List.Elements.{filter_passes}
use Rattle.lf_pattern.specs.Matching.{matches}
use Rattle.lf_pattern.specs.Samples.{AreKept, AreSamples, IsKept, candidates, none, keep, leave}
use Rattle.lf_pattern.specs.SampleScan.{added, both_added, is_kept}
use Rattle.lf_pattern.specs.ShapeScan.{capped, read_from, start}
use Rattle.lf_pattern.specs.declared.sample.Both.{Both}
use Rattle.lf_pattern.proofs.Capping.{fits, capped-fits, capped-long}
use Rattle.lf_pattern.proofs.MatchLaws.{matches_is}
use Rattle.lf_pattern.proofs.ShapeFound.{found_shape}
use Rattle.lf_pattern.proofs.ShapeGiven.{given_shape}

-- the two tests of a sample agree, by whether it is empty and whether it is matched
same_test : (empty matched : Bool) (x y : List (List ℕ)) → cond ((empty || false) || not matched) y x ≡ cond ((not empty && true) && matched) x y
same_test true true x y = refl
same_test true false x y = refl
same_test false true x y = refl
same_test false false x y = refl

never_added : (empty matched : Bool) (x y : List (List ℕ)) → cond ((empty || true) || not matched) y x ≡ y
never_added true matched x y = refl
never_added false matched x y = refl

module _ (p s : List ℕ) where
  long-kept : fits s ≡ false → is_kept p s ≡ false
  long-kept h = ap (λ (b : Bool). (nat_lt 0 (length s) && b) && matches p s) h ∙ ap (λ (b : Bool). b && matches p s) (and-false (nat_lt 0 (length s)))

  some-length : nat_lt 0 (length s) ≡ not (nat_eq (length s) 0)
  some-length = grind (arith, nat_tests)

  added-kept : (list : List (List ℕ)) → list_any (λ a. bytes_eq a s) list ≡ false → added p list (capped s) ≡ cond (is_kept p s) (list ++ s ∷ []) list
  added-kept list apart = elim (cases_Bool (fits s)) [
    | inl h ↦
        ap (added p list) (capped-fits s h)
        ∙ ap (λ (a : Bool). cond ((nat_eq (length s) 0 || a) || not (matches p s)) list (list ++ s ∷ [])) apart
        ∙ same_test (nat_eq (length s) 0) (matches p s) (list ++ s ∷ []) list
        ∙ ap₂ (λ (n f : Bool). cond ((n && f) && matches p s) (list ++ s ∷ []) list) (sym some-length) (sym h)
    | inr h ↦ ap (added p list) (capped-long s h) ∙ sym (cond-false (is_kept p s) _ _ (long-kept h))
  ]

  added-again : (list : List (List ℕ)) → list_any (λ a. bytes_eq a s) list ≡ true → added p list (capped s) ≡ list
  added-again list there = elim (cases_Bool (fits s)) [
    | inl h ↦
        ap (added p list) (capped-fits s h)
        ∙ ap (λ (a : Bool). cond ((nat_eq (length s) 0 || a) || not (matches p s)) list (list ++ s ∷ [])) there
        ∙ never_added (nat_eq (length s) 0) (matches p s) (list ++ s ∷ []) list
    | inr h ↦ ap (added p list) (capped-long s h)
  ]

-- ---- both samples

module _ (p low high : List ℕ) where
  -- behind a low sample that is kept or isn't
  behind : Bool → List (List ℕ)
  behind kept = added p (cond kept (low ∷ []) []) (capped high)

  first-added : added p [] (capped low) ≡ cond (is_kept p low) (low ∷ []) []
  first-added = added-kept p low [] refl

  or-nothing : (b c : Bool) → b ≡ c → (b || false) ≡ c
  or-nothing true c e = e
  or-nothing false c e = e

  equal-both : bytes_eq low high ≡ true → (k : Bool) → is_kept p low ≡ k → behind k ≡ cond k (low ∷ []) []
  unfolding behind
  equal-both e true h = added-again p high (low ∷ []) (or-nothing (bytes_eq low high) true e)
  equal-both e false h =
      let same : low ≡ high = (bytes_eq-Decides low high).0 e in
      added-kept p high [] refl ∙ cond-false (is_kept p high) _ _ (ap (is_kept p) (sym same) ∙ h)

  two-kept : (k : Bool) → cond k (low ∷ high ∷ []) (low ∷ []) ≡ low ∷ cond k (high ∷ []) []
  two-kept true = refl
  two-kept false = refl

  apart-both : bytes_eq low high ≡ false → (k : Bool) → behind k ≡ cond k (low ∷ cond (is_kept p high) (high ∷ []) []) (cond (is_kept p high) (high ∷ []) [])
  unfolding behind
  apart-both e true = added-kept p high (low ∷ []) (or-nothing (bytes_eq low high) false e) ∙ two-kept (is_kept p high)
  apart-both e false = added-kept p high [] refl

  both_kept : added p (added p [] (capped low)) (capped high) ≡ filter (is_kept p) (candidates (record { low = low; high = high }))
  unfolding behind
  both_kept =
      ap (λ (l : List (List ℕ)). added p l (capped high)) first-added
      ∙ elim (cases_Bool (bytes_eq low high)) [
        | inl e ↦ equal-both e (is_kept p low) refl ∙ sym (ap (filter (is_kept p)) (cond-true (bytes_eq low high) (low ∷ []) (low ∷ high ∷ []) e))
        | inr e ↦ apart-both e (is_kept p low) ∙ sym (ap (filter (is_kept p)) (cond-false (bytes_eq low high) (low ∷ []) (low ∷ high ∷ []) e))
      ]

-- ---- which texts are kept

kept_from_test : (p s : List ℕ) → is_kept p s ≡ true → IsKept p s
kept_from_test p s h =
    let (front, matched) = and_parts (nat_lt 0 (length s) && nat_le (length s) 256) (matches p s) h in
    let (some, short) = and_parts (nat_lt 0 (length s)) (nat_le (length s) 256) front in
    (λ e. true≢false (sym some ∙ ap (λ (l : List ℕ). nat_lt 0 (length l)) e), grind (arith, nat_tests), (matches_is p s).0 matched)

some_bytes : (s : List ℕ) → s ≢ [] → nat_lt 0 (length s) ≡ true
some_bytes [] some = absurd (some refl)
some_bytes (b ∷ s) some = grind (arith, nat_tests)

test_from_kept : (p s : List ℕ) → IsKept p s → is_kept p s ≡ true
test_from_kept p s (some, short, matched) =
    let few : nat_le (length s) 256 ≡ true = grind (arith, nat_tests) in
    ap (λ (b : Bool). (b && nat_le (length s) 256) && matches p s) (some_bytes s some) ∙ ap (λ (b : Bool). b && matches p s) few ∙ (matches_is p s).1 matched

module _ (p : List ℕ) where
  -- those that the test passes are kept
  filter_kept : (texts : List (List ℕ)) → AreKept p texts (filter (is_kept p) texts)
  filter_kept [] = none
  filter_kept (s ∷ texts) = by (filter_kept texts) (is_kept p s) refl
    where
      by : AreKept p texts (filter (is_kept p) texts) → (b : Bool) → is_kept p s ≡ b → AreKept p (s ∷ texts) (cond b (s ∷ filter (is_kept p) texts) (filter (is_kept p) texts))
      by more true e = keep (kept_from_test p s e) more
      by more false e = leave (λ kept. true≢false (sym (test_from_kept p s kept) ∙ e)) more

  -- and no others
  kept_only : {texts kept : List (List ℕ)} → AreKept p texts kept → kept ≡ filter (is_kept p) texts
  kept_only none = refl
  kept_only (keep {s} {texts} {kept} is more) = ap (s ∷◌) (kept_only more) ∙ sym (cond-true (is_kept p s) _ _ (test_from_kept p s is))
  kept_only (leave {s} {texts} {kept} isnt more) = kept_only more ∙ sym (cond-false (is_kept p s) _ _ (false_from_ne_true (is_kept p s) (λ e. isnt (kept_from_test p s e))))

  each_kept : {texts kept : List (List ℕ)} → AreKept p texts kept → All (IsKept p) kept
  each_kept {texts} {kept} are = subst (All (IsKept p)) (sym (kept_only are)) (λ k d lt. kept_from_test p _ (filter_passes (is_kept p) texts k d lt))

-- ---- the samples of a pattern

-- what is read of a pattern gives its samples
pub samples_read : (p : List ℕ) (b : Both) (list : List (List ℕ)) → read_from start (chars p) ≡ Some b → list ≡ both_added p b → AreSamples p list
samples_read p b list h e =
    let (s, shape, is) = given_shape (chars p) b h in
    let these : list ≡ filter (is_kept p) (candidates s) = e ∙ ap (both_added p) is ∙ both_kept p s.low s.high in
    inl (s, shape, subst (AreKept p (candidates s)) (sym these) (filter_kept p (candidates s)))

pub samples_none : (p : List ℕ) (list : List (List ℕ)) → read_from start (chars p) ≡ None → list ≡ [] → AreSamples p list
samples_none p list h e = inr (λ s shape. none-some _ (sym h ∙ found_shape (chars p) s shape), e)

-- the samples of a pattern are one list, which what is read of it gives
pub samples_only : (p : List ℕ) (list : List (List ℕ)) → AreSamples p list → list ≡ option_map_or (both_added p) (read_from start (chars p)) []
samples_only p list (inl (s, shape, are)) =
    kept_only p are ∙ sym (both_kept p s.low s.high) ∙ sym (ap (λ (o : Option Both). option_map_or (both_added p) o []) (found_shape (chars p) s shape))
samples_only p list (inr (outside, e)) = by (read_from start (chars p)) refl
  where
    by : (o : Option Both) → read_from start (chars p) ≡ o → list ≡ option_map_or (both_added p) o []
    by None h = e
    by (Some b) h = let (s, shape, is) = given_shape (chars p) b h in absurd (outside s shape)

pub samples_good : (p : List ℕ) (list : List (List ℕ)) → AreSamples p list → All (IsKept p) list
samples_good p list (inl (s, shape, are)) = each_kept p are
samples_good p list (inr (outside, e)) = subst (All (IsKept p)) (sym e) (λ k d lt. absurd (omega (arith, lt)))
