-- Sums over bits and blocks.
use Rattle.std.proofs.Common.{◌≡◌, inl, inr, ℕ, zero, suc, ◌+◌, ◌*◌, ◌<◌, ◌≤◌, min, Bool, true, false, cond, List, [], ◌∷◌, ◌++◌, length, take, get_or, refl, sym, ◌∙◌, ap, arith}
use Rattle.std.specs.Int.{bit_at}
use Rattle.std.specs.List.{Contains, filter, range_with_len, sum_by}
use Rattle.std.proofs.lemmas.List.Sums.{sum_by-cons, sum_by_more, sum_by_push}
use Rattle.std.proofs.lemmas.Nat.Bits.{bit_at-zero}
use Rattle.lf_laws.proofs.Members.{first_or_behind, none_in}
use Rattle.lf_laws.proofs.Slices.{take_none}
use Rattle.lf_weights.specs.views.Masks.{weight_in}

pub take_min : {X : Type 0} (n : ℕ) (xs : List X) → take (min (length xs) n) xs ≡ take n xs
take_min zero xs = let e : min (length xs) 0 ≡ 0 = omega arith in ap (λ (k : ℕ). take k xs) e
take_min {X} (suc n) [] = let none : List X = [] in let e : min 0 (suc n) ≡ 0 = omega arith in ap (λ (k : ℕ). take k none) e
take_min (suc n) (x ∷ xs) = let e : min (suc (length xs)) (suc n) ≡ suc (min (length xs) n) = omega arith in ap (λ (k : ℕ). take k (x ∷ xs)) e ∙ ap (λ ys. x ∷ ys) (take_min n xs)

-- one more number of a range

last : (a n : ℕ) → range_with_len a (suc n) ≡ range_with_len a n ++ (a + n) ∷ []
last a zero = let e : a ≡ a + 0 = omega arith in ap (λ (k : ℕ). k ∷ []) e
last a (suc n) = let e : a + 1 + n ≡ a + suc n = omega arith in ap (λ (ks : List ℕ). a ∷ ks) (last (a + 1) n ∙ ap (λ (k : ℕ). range_with_len (a + 1) n ++ k ∷ []) e)

pub sum_more : (f : ℕ → ℕ) (n : ℕ) → sum_by f (range_with_len 0 (n + 1)) ≡ sum_by f (range_with_len 0 n) + f n
sum_more f n =
    let e : n + 1 ≡ suc n = omega arith in
    let z : 0 + n ≡ n = omega arith in
    ap (λ (k : ℕ). sum_by f (range_with_len 0 k)) e ∙ ap (sum_by f) (last 0 n) ∙ sum_by_push f (range_with_len 0 n) (0 + n) ∙ ap (λ (k : ℕ). sum_by f (range_with_len 0 n) + f k) z

-- numbers of a range that meet others

pub sum_of_none : {X : Type 0} (f : X → ℕ) (xs : List X) → ((x : X) → f x ≡ 0) → sum_by f xs ≡ 0
sum_of_none f [] none = refl
sum_of_none f (x ∷ xs) none = let h = none x in let r = sum_of_none f xs none in let c = sum_by-cons f x xs in omega (arith, h, r, c)

pub none_in_no_mask : (weights : List ℕ) → weight_in 0 weights ≡ 0
none_in_no_mask weights = sum_of_none (λ j. bit_at 0 j * get_or weights j 0) (range_with_len 0 (length weights)) (λ j. ap (λ (b : ℕ). b * get_or weights j 0) (bit_at-zero j) ∙ omega arith)

pub both_sums : {X : Type 0} (f g : X → ℕ) (xs : List X) → sum_by (λ x. f x + g x) xs ≡ sum_by f xs + sum_by g xs
both_sums f g [] = omega arith
both_sums f g (x ∷ xs) =
    let all = sum_by-cons (λ y. f y + g y) x xs in
    let left = sum_by-cons f x xs in
    let right = sum_by-cons g x xs in
    let rest = both_sums f g xs in
    omega (arith, all, left, right, rest)

-- over two ranges, the second behind the first
pub sum_behind : (f : ℕ → ℕ) (m n : ℕ) → sum_by f (range_with_len 0 (m + n)) ≡ sum_by f (range_with_len 0 m) + sum_by (λ j. f (m + j)) (range_with_len 0 n)
sum_behind f m zero = let e : m + 0 ≡ m = omega arith in let s = ap (λ (k : ℕ). sum_by f (range_with_len 0 k)) e in omega (arith, s)
sum_behind f m (suc n) =
    let e : m + suc n ≡ m + n + 1 = omega arith in
    let i : suc n ≡ n + 1 = omega arith in
    let one = ap (λ (k : ℕ). sum_by f (range_with_len 0 k)) e in
    let more = sum_more f (m + n) in
    let rest = sum_behind f m n in
    let other = ap (λ (k : ℕ). sum_by (λ j. f (m + j)) (range_with_len 0 k)) i in
    let last_one = sum_more (λ j. f (m + j)) n in
    omega (arith, one, more, rest, other, last_one)

-- of those that pass

passing_by : {X : Type 0} (f : X → ℕ) (x : X) (b : Bool) (passing : List X) (rest : ℕ) → sum_by f passing ≡ rest → sum_by f (cond b (x ∷ passing) passing) ≡ cond b 1 0 * f x + rest
passing_by f x true passing rest e = let c = sum_by-cons f x passing in omega (arith, c, e)
passing_by f x false passing rest e = omega (arith, e)

pub sum_of_passing : {X : Type 0} (passes : X → Bool) (f : X → ℕ) (xs : List X) → sum_by f (filter passes xs) ≡ sum_by (λ x. cond (passes x) 1 0 * f x) xs
sum_of_passing passes f [] = refl
sum_of_passing passes f (x ∷ xs) =
    passing_by f x (passes x) (filter passes xs) (sum_by (λ y. cond (passes y) 1 0 * f y) xs) (sum_of_passing passes f xs) ∙ sym (sum_by-cons (λ y. cond (passes y) 1 0 * f y) x xs)

-- over a list, by places
pub sum_by_places : {X : Type 0} (f : X → ℕ) (xs : List X) (d : X) (n : ℕ) → n ≤ length xs → sum_by f (take n xs) ≡ sum_by (λ u. f (get_or xs u d)) (range_with_len 0 n)
sum_by_places f xs d zero h = ap (sum_by f) (take_none xs)
sum_by_places f xs d (suc n) h =
    let i : suc n ≡ n + 1 = omega arith in
    let e = ap (λ (k : ℕ). sum_by f (take k xs)) i in
    let g = ap (λ (k : ℕ). sum_by (λ u. f (get_or xs u d)) (range_with_len 0 k)) i in
    let one = sum_by_more f xs n d (omega (arith, h)) in
    let more = sum_more (λ u. f (get_or xs u d)) n in
    let rest = sum_by_places f xs d n (omega (arith, h)) in
    omega (arith, e, g, one, more, rest)

range_within : (a n j : ℕ) → Contains (range_with_len a n) j → (a ≤ j) × (j < a + n)
range_within a zero j c = absurd (none_in j c)
range_within a (suc n) j c = elim (first_or_behind a (range_with_len (a + 1) n) j c) [
  | inl e ↦ (omega (arith, e), omega (arith, e))
  | inr d ↦ let r = range_within (a + 1) n j d in let low = r.0 in let high = r.1 in (omega (arith, low), omega (arith, high))
]

pub of_range : (n j : ℕ) → Contains (range_with_len 0 n) j → j < n
of_range n j c = let r = (range_within 0 n j c).1 in omega (arith, r)

-- one more summand, and a part of them

pub one_up_to : (a b most total next : ℕ) → total ≡ min a most → next ≡ min (total + b) most → next ≡ min (a + b) most
one_up_to a b most total next e f = grind arith

pub part_up_to : (a b most total part next : ℕ) → total ≡ min a most → part ≡ min b most → next ≡ min (total + part) most → next ≡ min (a + b) most
part_up_to a b most total part next e f g = grind arith
