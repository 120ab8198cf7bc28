-- Sums over lists of which one element changes, and how often a number stands in a list.
use Rattle.std.proofs.Common.{◌≡◌, ◌≢◌, ℕ, zero, suc, ◌+◌, ◌<◌, ◌≤◌, min, Bool, false, if◌then◌else◌, ◌==◌, List, [], ◌∷◌, ◌++◌, set, IsPermutation, refl, sym, ap, arith}
use Rattle.std.specs.List.{sum_by}
use Rattle.std.proofs.lemmas.Grind.{common_steps}
use Rattle.std.proofs.lemmas.List.Sums.{sum_by-cons, sum_by-append}
use Rattle.std.proofs.lemmas.List.Sorted.{sum_by-IsPermutation}
use mathlib.Core.Option.{some, some-injective, some-ne-none}
use lib.ListN.{get_elem?}
use Rattle.lf_board.specs.Numbers.{times, once_below}

pub sum_by-set_at : {A : Type 0} (f : A → ℕ) (xs : List A) (i : ℕ) (v w : A) → get_elem? xs i ≡ some v → sum_by f (set xs i w) + f v ≡ sum_by f xs + f w
sum_by-set_at f [] i v w e = absurd (some-ne-none v (sym e))
sum_by-set_at f (x ∷ xs) zero v w e =
    let is : f x ≡ f v = ap f (some-injective x v e) in
    let a = sum_by-cons f w xs in
    let b = sum_by-cons f x xs in
    omega arith
sum_by-set_at f (x ∷ xs) (suc i) v w e =
    let rest = sum_by-set_at f xs i v w e in
    let a = sum_by-cons f x (set xs i w) in
    let b = sum_by-cons f x xs in
    omega arith

pub one-le-sum_by : {A : Type 0} (f : A → ℕ) (xs : List A) (i : ℕ) (v : A) → get_elem? xs i ≡ some v → f v ≤ sum_by f xs
one-le-sum_by f [] i v e = absurd (some-ne-none v (sym e))
one-le-sum_by f (x ∷ xs) zero v e = let is : f x ≡ f v = ap f (some-injective x v e) in let a = sum_by-cons f x xs in omega arith
one-le-sum_by f (x ∷ xs) (suc i) v e = let rest = one-le-sum_by f xs i v e in let a = sum_by-cons f x xs in omega arith

-- where an element that is nothing by one measure is nothing by another, and the first sum is nothing, so is the second
idle : {A : Type 0} (by f : A → ℕ) (xs : List A) → ((j : ℕ) (u : A) → get_elem? xs j ≡ some u → by u ≡ 0 → f u ≡ 0) → sum_by by xs ≡ 0 → sum_by f xs ≡ 0
idle by f [] none_of h = refl
idle by f (x ∷ xs) none_of h =
    let a = sum_by-cons by x xs in
    let b = sum_by-cons f x xs in
    let first = none_of 0 x refl (omega arith) in
    let rest = idle by f xs (λ j u e. none_of (suc j) u e) (omega arith) in
    omega arith

-- where one element has all of the first sum, it has all of the second
pub alone : {A : Type 0} (by f : A → ℕ) (xs : List A) (i : ℕ) (v : A) → ((j : ℕ) (u : A) → get_elem? xs j ≡ some u → by u ≡ 0 → f u ≡ 0) → get_elem? xs i ≡ some v → sum_by by xs ≡ by v → sum_by f xs ≡ f v
alone by f [] i v none_of at h = absurd (some-ne-none v (sym at))
alone by f (x ∷ xs) zero v none_of at h =
    let is = some-injective x v at in
    let p : by x ≡ by v = ap by is in
    let q : f x ≡ f v = ap f is in
    let a = sum_by-cons by x xs in
    let b = sum_by-cons f x xs in
    let rest = idle by f xs (λ j u e. none_of (suc j) u e) (omega arith) in
    omega arith
alone by f (x ∷ xs) (suc i) v none_of at h =
    let a = sum_by-cons by x xs in
    let b = sum_by-cons f x xs in
    let part = one-le-sum_by by xs i v at in
    let first = none_of 0 x refl (omega arith) in
    let rest = alone by f xs i v (λ j u e. none_of (suc j) u e) at (omega arith) in
    omega arith

-- ---- how often a number stands in a list

pub times-cons : (x y : ℕ) (ys : List ℕ) → times x (y ∷ ys) ≡ (if x == y then 1 else 0) + times x ys
times-cons x y ys = sum_by-cons (λ z. if x == z then 1 else 0) y ys

pub times_hit : (x y : ℕ) (ys : List ℕ) → x ≡ y → times x (y ∷ ys) ≡ 1 + times x ys
times_hit x y ys h = let all = times-cons x y ys in let one = same x y h in omega arith
  where
    same : (x y : ℕ) → x ≡ y → ◌≡◌ {A = ℕ} (if x == y then 1 else 0) 1
    same x y h = grind (arith, common_steps)

pub times_miss : (x y : ℕ) (ys : List ℕ) → x ≢ y → times x (y ∷ ys) ≡ times x ys
times_miss x y ys h = let all = times-cons x y ys in let none_of = other x y h in omega arith
  where
    other : (x y : ℕ) → x ≢ y → ◌≡◌ {A = ℕ} (if x == y then 1 else 0) 0
    other x y h = grind (arith, common_steps)

pub times-append : (x : ℕ) (xs ys : List ℕ) → times x (xs ++ ys) ≡ times x xs + times x ys
times-append x xs ys = sum_by-append (λ z. if x == z then 1 else 0) xs ys

pub times-permutation : (x : ℕ) (xs ys : List ℕ) → IsPermutation xs ys → times x ys ≡ times x xs
times-permutation x xs ys h = sum_by-IsPermutation (λ z. if x == z then 1 else 0) xs ys h

-- ---- the numbers below a count

pub once_below-more : (n p x : ℕ) → n < p → once_below (min (n + 1) p) x ≡ once_below (min n p) x + times x (n ∷ [])
once_below-more n p x h = grind (arith, common_steps)

pub once_below-full : (n p x : ℕ) → p ≤ n → once_below (min (n + 1) p) x ≡ once_below (min n p) x
once_below-full n p x h = grind (arith, common_steps)

pub once_below-self : (n p : ℕ) → n < p → once_below (min n p) n ≡ 0
once_below-self n p h = grind (arith, common_steps)

pub once_below_inside : (n x : ℕ) → x < n → once_below n x ≡ 1
once_below_inside n x h = grind (arith, common_steps)

-- what is shut has a claim that found nothing
pub missed_some : (n : ℕ) (b : Bool) → b ≡ (n == 0) → b ≡ false → 0 < n
missed_some n b is shut = grind (arith, common_steps)
