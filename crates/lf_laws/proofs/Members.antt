-- Members of lists, what is made of them, and texts that are told apart.
use Rattle.std.proofs.Common.{◌≡◌, ◌≢◌, ℕ, zero, suc, ◌<◌, Bool, true, false, List, [], ◌∷◌, ◌++◌, map, length, get_or, ◌⊎◌, inl, inr, refl, sym, ap, ◌∙◌, subst, true≢false, arith}
use Rattle.std.specs.List.{Contains, flat_map, list_any, sum_by, AllByRecursion}
use Rattle.std.specs.Str.{bytes_eq}
use Rattle.std.proofs.lemmas.Slice.Eq.{bytes_eq-Decides}
use Rattle.std.proofs.lemmas.List.Sums.{sum_by-cons}
use Rattle.std.proofs.lemmas.List.Elements.{Contains-append_left, Contains-append_right, Contains-append_cases}
use Rattle.std.proofs.lemmas.Bool.{or_cases, or_left, or_right, false_from_ne_true}

pub here : {X : Type 0} (x : X) (xs : List X) → Contains (x ∷ xs) x
here x xs = (0, omega arith, refl)

pub behind : {X : Type 0} (x : X) (xs : List X) (y : X) → Contains xs y → Contains (x ∷ xs) y
behind x xs y c = (suc c.0, omega (arith, c.1), c.2)

pub none_in : {X : Type 0} (y : X) → Contains [] y → ⊥
none_in y c = omega (arith, c.1)

pub first_or_behind : {X : Type 0} (x : X) (xs : List X) (y : X) → Contains (x ∷ xs) y → (x ≡ y) ⊎ Contains xs y
first_or_behind x xs y c = by c.0 c.1 c.2
  where
    by : (k : ℕ) → k < length (x ∷ xs) → get_or (x ∷ xs) k y ≡ y → (x ≡ y) ⊎ Contains xs y
    by zero b e = inl e
    by (suc k) b e = inr (k, omega arith, e)

-- a list of one element has no other
pub only_one : {X : Type 0} (x y : X) → Contains (x ∷ []) y → x ≡ y
only_one {X = X} x y c = by (first_or_behind x [] y c)
  where
    by : (x ≡ y) ⊎ Contains [] y → x ≡ y
    by (inl e) = e
    by (inr m) = absurd (none_in y m)

-- what holds of each element holds of a member
pub each_member : {X : Type 0} (P : X → Type 0) (xs : List X) (x : X) → AllByRecursion P xs → Contains xs x → P x
each_member P [] x all c = absurd (none_in x c)
each_member {X = X} P (z ∷ xs) x all c = by (first_or_behind z xs x c) (each_member P xs x all.1)
  where
    by : (z ≡ x) ⊎ Contains xs x → (Contains xs x → P x) → P x
    by (inl e) later = subst P e all.0
    by (inr m) later = later m

-- what holds of each element of a list holds of each of its parts, and the other way round
pub all_front : {X : Type 0} (P : X → Type 0) (xs ys : List X) → AllByRecursion P (xs ++ ys) → AllByRecursion P xs
all_front P [] ys all = tt
all_front P (x ∷ xs) ys all = (all.0, all_front P xs ys all.1)

pub all_back : {X : Type 0} (P : X → Type 0) (xs ys : List X) → AllByRecursion P (xs ++ ys) → AllByRecursion P ys
all_back P [] ys all = all
all_back P (x ∷ xs) ys all = all_back P xs ys all.1

pub all_append : {X : Type 0} (P : X → Type 0) (xs ys : List X) → AllByRecursion P xs → AllByRecursion P ys → AllByRecursion P (xs ++ ys)
all_append P [] ys front back = back
all_append P (x ∷ xs) ys front back = (front.0, all_append P xs ys front.1 back)

-- ---- tests of members

-- a test that passes somewhere passes on a member
pub some_has : {X : Type 0} (test : X → Bool) (xs : List X) → list_any test xs ≡ true → (x : X) × Contains xs x × (test x ≡ true)
some_has test [] e = absurd (true≢false (sym e))
some_has test (y ∷ xs) e = elim (or_cases (test y) (list_any test xs) e) [
  | inl first ↦ (y, here y xs, first)
  | inr later ↦ let found = some_has test xs later in (found.0, behind y xs found.0 found.1, found.2)
]

-- and where it passes on a member it passes somewhere
pub any_has : {X : Type 0} (test : X → Bool) (xs : List X) (x : X) → Contains xs x → test x ≡ true → list_any test xs ≡ true
any_has test [] x there passes = absurd (none_in x there)
any_has test (y ∷ xs) x there passes = elim (first_or_behind y xs x there) [
  | inl same ↦ or_left (test y) (list_any test xs) (ap test same ∙ passes)
  | inr later ↦ or_right (test y) (list_any test xs) (any_has test xs x later passes)
]

-- ---- lists made of others

pub in_map : {X Y : Type 0} (f : X → Y) (xs : List X) (x : X) → Contains xs x → Contains (map f xs) (f x)
in_map f [] x c = absurd (none_in x c)
in_map {X} {Y} f (x ∷ xs) y c = elim (first_or_behind x xs y c) [
  | inl e ↦ let P : Y → Type 0 = λ z. Contains (f x ∷ map f xs) z in subst P (ap f e) (here (f x) (map f xs))
  | inr d ↦ behind (f x) (map f xs) (f y) (in_map f xs y d)
]

-- what a list becomes under a function has no other members than what its members become
pub map_member : {X Y : Type 0} (f : X → Y) (xs : List X) (y : Y) → Contains (map f xs) y → (x : X) × Contains xs x × (y ≡ f x)
map_member f [] y c = absurd (none_in y c)
map_member f (x ∷ xs) y c = elim (first_or_behind (f x) (map f xs) y c) [
  | inl e ↦ (x, here x xs, sym e)
  | inr d ↦ let from = map_member f xs y d in (from.0, behind x xs from.0 from.1, from.2)
]

pub in_flat_map : {X Y : Type 0} (f : X → List Y) (xs : List X) (x : X) (y : Y) → Contains xs x → Contains (f x) y → Contains (flat_map f xs) y
in_flat_map f [] x y c d = absurd (none_in x c)
in_flat_map {X = X} {Y = Y} f (z ∷ xs) x y c d = by (first_or_behind z xs x c) (λ m. in_flat_map f xs x y m d)
  where
    by : (z ≡ x) ⊎ Contains xs x → (Contains xs x → Contains (flat_map f xs) y) → Contains (flat_map f (z ∷ xs)) y
    by (inl e) later = Contains-append_left (f z) (flat_map f xs) y (subst (λ w. Contains (f w) y) (sym e) d)
    by (inr m) later = Contains-append_right (f z) (flat_map f xs) y (later m)

pub of_flat_map : {X Y : Type 0} (f : X → List Y) (xs : List X) (y : Y) → Contains (flat_map f xs) y → (x : X) × Contains xs x × Contains (f x) y
of_flat_map f [] y c = absurd (none_in y c)
of_flat_map {X = X} {Y = Y} f (z ∷ xs) y c = by (Contains-append_cases (f z) (flat_map f xs) y c) (of_flat_map f xs y)
  where
    past : (x : X) × Contains xs x × Contains (f x) y → (x : X) × Contains (z ∷ xs) x × Contains (f x) y
    past m = (m.0, behind z xs m.0 m.1, m.2)

    by : Contains (f z) y ⊎ Contains (flat_map f xs) y → (Contains (flat_map f xs) y → (x : X) × Contains xs x × Contains (f x) y) → (x : X) × Contains (z ∷ xs) x × Contains (f x) y
    by (inl d) later = (z, here z xs, d)
    by (inr m) later = past (later m)

-- ---- sums

-- what is the same of each member has the same sum
pub same_sums : {X : Type 0} (f g : X → ℕ) (xs : List X) → ((x : X) → Contains xs x → f x ≡ g x) → sum_by f xs ≡ sum_by g xs
same_sums f g [] same = refl
same_sums f g (x ∷ xs) same = omega (arith, sum_by-cons f x xs, sum_by-cons g x xs, same x (here x xs), same_sums f g xs (λ y c. same y (behind x xs y c)))

-- ---- texts

pub same_true : (x t : List ℕ) → x ≡ t → bytes_eq x t ≡ true
same_true x t e = (bytes_eq-Decides x t).1 e

pub true_same : (x t : List ℕ) → bytes_eq x t ≡ true → x ≡ t
true_same x t e = (bytes_eq-Decides x t).0 e

pub other_false : (x t : List ℕ) → x ≢ t → bytes_eq x t ≡ false
other_false x t h = false_from_ne_true (bytes_eq x t) (λ e. h (true_same x t e))

pub any_out : (k : List ℕ) (keys : List (List ℕ)) → list_any (bytes_eq k) keys ≡ true → Contains keys k
any_out k keys e = let found = some_has (bytes_eq k) keys e in subst (Contains keys) (sym (true_same k found.0 found.2)) found.1

pub any_in : (k : List ℕ) (keys : List (List ℕ)) → Contains keys k → list_any (bytes_eq k) keys ≡ true
any_in k keys c = any_has (bytes_eq k) keys k c (same_true k k refl)
