-- Rules are marked once each, so that they don't run out of marks: while a rule is still to be found, some rule isn't counted as marked.
use Rattle.std.proofs.Common.{◌≡◌, ◌<◌, ◌≤◌, ℕ, ◌+◌, Bool, true, false, ◌||◌, eqb, List, [], ◌∷◌, length, refl, sym, subst, arith, true≢false}
use Rattle.std.specs.List.{AllByRecursion, IsDistinct}
use Rattle.std.proofs.lemmas.Bool.{eqb-true}
use Rattle.std.proofs.lemmas.Map.Keys.{IsDistinct-cons}
use Rattle.std.proofs.lemmas.Map.Steps.{length-le_from_distinct_below}
use Rattle.lf_trials.specs.Reached.{is_marked}

-- each of the numbers below n is marked at most once, and no other
pub record AreMarks (n : ℕ) (marked : List ℕ) : Type 0 where
  pub once : IsDistinct eqb marked
  pub below : (k : ℕ) → is_marked marked k ≡ true → k < n

apart : (k : ℕ) (marked : List ℕ) → is_marked marked k ≡ false → AllByRecursion (λ j. eqb k j ≡ false) marked
apart k [] none = tt
apart k (j ∷ marked) none = by (eqb k j) refl none (apart k marked)
  where
    by : (b : Bool) → eqb k j ≡ b → (b || is_marked marked k) ≡ false → (is_marked marked k ≡ false → AllByRecursion (λ i. eqb k i ≡ false) marked) → (eqb k j ≡ false) × AllByRecursion (λ i. eqb k i ≡ false) marked
    by true is h later = absurd (true≢false h)
    by false is h later = (is, later h)

pub no_marks : (n : ℕ) → AreMarks n []
unfolding IsDistinct
no_marks n = record { once = tt; below = λ k h. absurd (true≢false (sym h)) }

pub one_mark_more : (n k : ℕ) (marked : List ℕ) → k < n → is_marked marked k ≡ false → AreMarks n marked → AreMarks n (k ∷ marked)
one_mark_more n k marked less none are = record {
  once = IsDistinct-cons eqb k marked (apart k marked none) are.once;
  below = λ j h. by j (eqb j k) refl h;
}
  where
    by : (j : ℕ) (b : Bool) → eqb j k ≡ b → (b || is_marked marked j) ≡ true → j < n
    by j true is h = subst (λ i. i < n) (sym (eqb-true j k is)) less
    by j false is h = are.below j h

pub few_marks : (n : ℕ) (marked : List ℕ) → AreMarks n marked → length marked ≤ n
few_marks n marked are = length-le_from_distinct_below marked n are.once are.below

-- the definition counts down from one more than there are rules: the rule in question is marked from the beginning
pub some_unmarked : (n unmarked : ℕ) (marked : List ℕ) → unmarked + length marked ≡ n + 1 → AreMarks n marked → 0 < unmarked
some_unmarked n unmarked marked count are = let few = few_marks n marked are in omega (arith, count, few)
