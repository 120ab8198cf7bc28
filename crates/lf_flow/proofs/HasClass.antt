-- Whether some class in a set passes a test, from one class on.
use Rattle.std.proofs.Common.{◌≡◌, ℕ, suc, ◌+◌, ◌<◌, ◌≤◌, Bool, true, false, ◌&&◌, ◌||◌, List, length, get_or, drop, refl, sym, ◌∙◌, ap, drop-cons, add-one}
use Rattle.std.specs.List.{list_any}
use Rattle.std.proofs.lemmas.List.{drop_all}
use Rattle.std.proofs.Math.Bool.{or-false, or_assoc}
use Rattle.lf_semantics.specs.ClassRows.{indexed_from}
use Rattle.lf_semantics.specs.Listing.{Listing}
use Rattle.lf_semantics.specs.RowTable.{has_class}

-- a class from k on is in the set and passes
abbrev pub passes_from : (ℕ → Bool) → List Bool → ℕ → Bool
passes_from test set k = list_any (λ on. on) (indexed_from (λ class on. on && test class) k (drop k set))

step : (test : ℕ → Bool) (set : List Bool) (k : ℕ) → k < length set → passes_from test set k ≡ ((get_or set k false && test k) || passes_from test set (suc k))
step test set k h = rw (drop-cons set k false h) refl

none_left : (test : ℕ → Bool) (set : List Bool) (k : ℕ) → length set ≤ k → passes_from test set k ≡ false
none_left test set k h = rw (drop_all k set h) refl

module _ (u : Listing) (test : ℕ → Bool) (set : List Bool) where
  pub found_none : has_class u test set ≡ (false || passes_from test set 0)
  found_none = refl

  pub found_more : (k : ℕ) (found passes : Bool) → k < length set → passes ≡ (get_or set k false && test k)
      → has_class u test set ≡ (found || passes_from test set k) → has_class u test set ≡ ((found || passes) || passes_from test set (k + 1))
  found_more k found passes h e is = rw (add-one, e) (is ∙ ap (λ b. found || b) (step test set k h) ∙ sym (or_assoc found (get_or set k false && test k) (passes_from test set (suc k))))

  pub found_all : (k : ℕ) (found : Bool) → length set ≤ k → has_class u test set ≡ (found || passes_from test set k) → has_class u test set ≡ found
  found_all k found h is = is ∙ ap (λ b. found || b) (none_left test set k h) ∙ or-false found

-- what is found by the branches of `found || (on && passes)`

pub found_before : (found on passes now : Bool) → found ≡ true → now ≡ true → now ≡ (found || (on && passes))
found_before true on passes now e f = f
found_before false on passes now e f = absurd (cc)

pub found_here : (found on passes now : Bool) → found ≡ false → on ≡ true → now ≡ passes → now ≡ (found || (on && passes))
found_here true on passes now e f g = absurd (cc)
found_here false true passes now e f g = g
found_here false false passes now e f g = absurd (cc)

pub found_not : (found on passes now : Bool) → found ≡ false → on ≡ false → now ≡ false → now ≡ (found || (on && passes))
found_not true on passes now e f g = absurd (cc)
found_not false true passes now e f g = absurd (cc)
found_not false false passes now e f g = g
