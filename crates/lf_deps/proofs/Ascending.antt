-- Numbers in ascending order, and what is left of them without one.
use Rattle.std.proofs.Common.{◌≡◌, ◌≢◌, ℕ, zero, suc, ◌+◌, ◌<◌, ◌≤◌, Bool, true, false, not, cond, eqb, List, [], ◌∷◌, ◌++◌, Some, length, slice_get, inl, inr, refl, ◌∙◌, ap, arith}
use Rattle.std.proofs.lemmas.Bool.{both_ways, cases_eq, eq-eqb, not-true}
use Rattle.std.proofs.lemmas.List.FromFn.{get_or-range_with_len, length-range_with_len}
use Rattle.std.proofs.lemmas.Option.{slice_get_within}
use Rattle.std.specs.List.{Contains, filter, range_with_len}
use Rattle.lf_laws.proofs.Members.{first_or_behind, none_in}
use Rattle.lf_semantics.proofs.Members.{in_filter, of_filter}
use Rattle.lf_semantics.proofs.Places.{eqb-other}
use Rattle.lf_deps.specs.Ordering.{without}

-- numbers from one on, in ascending order
abbrev pub Ascends : ℕ → List ℕ → Type 0
Ascends least [] = Unit {0}
Ascends least (k ∷ numbers) = (least ≤ k) × Ascends (k + 1) numbers

pub ascends_below : (least other : ℕ) (xs : List ℕ) → least ≤ other → Ascends other xs → Ascends least xs
ascends_below least other [] h a = tt
ascends_below least other (x ∷ xs) h a = (omega (arith, h, a.0), a.1)

pub filter_ascends : (test : ℕ → Bool) (least : ℕ) (xs : List ℕ) → Ascends least xs → Ascends least (filter test xs)
filter_ascends test least [] a = tt
filter_ascends test least (x ∷ xs) a = by (test x) (filter_ascends test (x + 1) xs a.1)
  where
    by : (b : Bool) → Ascends (x + 1) (filter test xs) → Ascends least (cond b (x ∷ filter test xs) (filter test xs))
    by true r = (a.0, r)
    by false r = ascends_below least (x + 1) (filter test xs) (omega (arith, a.0)) r

-- what stands behind a number isn't it
none_dropped : (k least : ℕ) (xs : List ℕ) → k < least → Ascends least xs → without k xs ≡ xs
none_dropped k least [] h a = refl
none_dropped k least (x ∷ xs) h a =
    let e : eqb x k ≡ false = eqb-other x k (λ f. absurd (omega (arith, f, h, a.0))) in
    ap (λ (b : Bool). cond (not b) (x ∷ without k xs) (without k xs)) e ∙ ap (λ (l : List ℕ). x ∷ l) (none_dropped k (x + 1) xs (omega (arith, h, a.0)) a.1)

-- one number fewer is left without it
pub one_fewer : (k least : ℕ) (xs : List ℕ) → Ascends least xs → Contains xs k → length xs ≡ length (without k xs) + 1
one_fewer k least [] a c = absurd (none_in k c)
one_fewer k least (x ∷ xs) a c = elim (cases_eq x k) [
  | inl e ↦
      let same : eqb x k ≡ true = eq-eqb x k e in
      let w : without k (x ∷ xs) ≡ without k xs = ap (λ (b : Bool). cond (not b) (x ∷ without k xs) (without k xs)) same in
      let n : without k xs ≡ xs = none_dropped k (x + 1) xs (omega (arith, e)) a.1 in
      let l : length (without k (x ∷ xs)) ≡ length xs = ap length (w ∙ n) in
      omega (arith, l)
  | inr f ↦
      let w : without k (x ∷ xs) ≡ x ∷ without k xs = ap (λ (b : Bool). cond (not b) (x ∷ without k xs) (without k xs)) (eqb-other x k f) in
      let l : length (without k (x ∷ xs)) ≡ suc (length (without k xs)) = ap length w in
      let d : Contains xs k = elim (first_or_behind x xs k c) [ inl e ↦ absurd (f e) | inr d ↦ d ] in
      let r = one_fewer k (x + 1) xs a.1 d in
      omega (arith, l, r)
]

pub range_ascends : (a n : ℕ) → Ascends a (range_with_len a n)
range_ascends a zero = tt
range_ascends a (suc n) = (omega arith, range_ascends (a + 1) n)

range_on : (a n : ℕ) → range_with_len a (n + 1) ≡ range_with_len a n ++ (a + n) ∷ []
range_on a zero = let e : a ≡ a + 0 = omega arith in ap (λ (k : ℕ). k ∷ []) e
range_on a (suc n) = (let e : suc n + 1 ≡ suc (n + 1) = omega arith in ap (λ (m : ℕ). range_with_len a m) e) ∙ ap (λ (l : List ℕ). a ∷ l) (range_on (a + 1) n ∙ (let e : (a + 1) + n ≡ a + suc n = omega arith in ap (λ (k : ℕ). range_with_len (a + 1) n ++ k ∷ []) e))

pub range_more : (n : ℕ) → range_with_len 0 (n + 1) ≡ range_with_len 0 n ++ n ∷ []
range_more n = range_on 0 n ∙ (let e : 0 + n ≡ n = omega arith in ap (λ (k : ℕ). range_with_len 0 n ++ k ∷ []) e)

pub in_range : (n j : ℕ) → j < n → Contains (range_with_len 0 n) j
in_range n j h =
    let l = length-range_with_len 0 n in
    (j, omega (arith, h, l), get_or-range_with_len 0 n j j h ∙ (let e : 0 + j ≡ j = omega arith in e))

-- so is the number of what stands in a list
pub number_in : {X : Type 0} (xs : List X) (k : ℕ) (x : X) → slice_get xs k ≡ Some x → Contains (range_with_len 0 (length xs)) k
number_in xs k x at = in_range (length xs) k (slice_get_within xs k x at)

pub of_range : (n j : ℕ) → Contains (range_with_len 0 n) j → j < n
of_range n j c =
    let l = length-range_with_len 0 n in
    let b : c.0 < n = omega (arith, c.1, l) in
    let e = get_or-range_with_len 0 n c.0 j b in
    omega (arith, e, c.2, b)

-- the numbers left without one are the others
pub in_without : (k j : ℕ) (xs : List ℕ) → Contains xs j → j ≢ k → Contains (without k xs) j
in_without k j xs c h = in_filter (λ i. not (eqb i k)) xs j c (ap not (eqb-other j k h))

pub of_without : (k j : ℕ) (xs : List ℕ) → Contains (without k xs) j → Contains xs j × (j ≢ k)
of_without k j xs c = let f = of_filter (λ i. not (eqb i k)) xs j c in (f.0, λ e. both_ways (eqb j k) (not-true (eqb j k) f.1) (eq-eqb j k e))
