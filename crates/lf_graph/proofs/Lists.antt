-- Members of lists, and numbers that rise.
use Rattle.std.proofs.Common.{◌≡◌, ◌≢◌, ℕ, ◌<◌, ◌≤◌, ◌+◌, ◌-◌, List, [], ◌∷◌, ◌++◌, length, take, drop, get_or, inl, inr, refl, sym, ◌∙◌, ap, arith}
use Rattle.std.specs.List.{Contains}
use Rattle.std.proofs.lemmas.Bool.{cases_eq, cases_lt}
use Rattle.std.proofs.lemmas.List.{get_or-drop, get_or-take, get_or_append_left, get_or_default, get_or_push, length-append, length-drop, length-take}
use Rattle.lf_laws.specs.Ascending.{AreAscending}

-- a member stands at a place, also where a list is read with another default
pub place_of : (xs : List ℕ) (x : ℕ) → Contains xs x → (k : ℕ) × (k < length xs) × (get_or xs k 0 ≡ x)
place_of xs x c = (c.0, c.1, get_or_default xs c.0 0 x c.1 ∙ c.2)

pub there : (xs : List ℕ) (k x : ℕ) → k < length xs → get_or xs k 0 ≡ x → Contains xs x
there xs k x h e = (k, h, get_or_default xs k x 0 h ∙ e)

-- up to a place the numbers of a list that rises rise too
pub fewer_rise : (xs : List ℕ) (n : ℕ) → n ≤ length xs → AreAscending xs → AreAscending (take n xs)
fewer_rise xs n m rise i j h k =
    let size = length-take n xs in
    let b : j < n = omega (arith, k, size, m) in
    let r = rise i j h (omega (arith, b, m)) in
    let e = get_or-take n xs i 0 (omega (arith, h, b)) in
    let f = get_or-take n xs j 0 b in
    omega (arith, r, e, f)

-- a greater number can stand behind them
pub more_rise : (xs : List ℕ) (y : ℕ) → AreAscending xs → ((x : ℕ) → Contains xs x → x < y) → AreAscending (xs ++ y ∷ [])
more_rise xs y rise less i j h k =
    let size = length-append xs (y ∷ []) in
    let front = get_or_append_left xs (y ∷ []) 0 i (omega (arith, h, k, size)) in
    elim (cases_lt j (length xs)) [
      | inl b ↦
          let r = rise i j h b in
          let f = get_or_append_left xs (y ∷ []) 0 j b in
          omega (arith, r, front, f)
      | inr b ↦
          let l = less (get_or xs i 0) (there xs i (get_or xs i 0) (omega (arith, h, k, size)) refl) in
          let f = get_or_push xs y 0 j (omega (arith, b, k, size)) in
          omega (arith, l, front, f)
    ]

-- none is greater than the last
pub up_to_last : (xs : List ℕ) (x : ℕ) → AreAscending xs → Contains xs x → x ≤ get_or xs (length xs - 1) 0
up_to_last xs x rise c =
    let at = place_of xs x c in
    elim (cases_eq at.0 (length xs - 1)) [
      | inl e ↦ let f = ap (λ (k : ℕ). get_or xs k 0) e in let g = at.2 in omega (arith, f, g)
      | inr n ↦ let r = rise at.0 (length xs - 1) (omega (arith, at.1, n)) (omega (arith, at.1)) in let g = at.2 in omega (arith, r, g)
    ]

-- each but the last is less than it
pub before_last : (xs : List ℕ) (x : ℕ) → AreAscending xs → Contains (take (length xs - 1) xs) x → x < get_or xs (length xs - 1) 0
before_last xs x rise c =
    let at = place_of (take (length xs - 1) xs) x c in
    let size = length-take (length xs - 1) xs in
    let b : at.0 < length xs - 1 = omega (arith, at.1, size) in
    let r = rise at.0 (length xs - 1) b (omega (arith, b)) in
    let e = get_or-take (length xs - 1) xs at.0 0 b in
    let g = at.2 in
    omega (arith, r, e, g)

pub not_last : (xs : List ℕ) (x : ℕ) → Contains xs x → x ≢ get_or xs (length xs - 1) 0 → Contains (take (length xs - 1) xs) x
not_last xs x c other =
    let at = place_of xs x c in
    let size = length-take (length xs - 1) xs in
    let b : at.0 < length xs - 1 = elim (cases_eq at.0 (length xs - 1)) [
      | inl e ↦ absurd (other (sym at.2 ∙ ap (λ (k : ℕ). get_or xs k 0) e))
      | inr n ↦ omega (arith, at.1, n)
    ] in
    there (take (length xs - 1) xs) at.0 x (omega (arith, b, size)) (get_or-take (length xs - 1) xs at.0 0 b ∙ at.2)

pub in_front : (xs : List ℕ) (n x : ℕ) → Contains (take n xs) x → Contains xs x
in_front xs n x c =
    let at = place_of (take n xs) x c in
    let size = length-take n xs in
    let b : at.0 < n = omega (arith, at.1, size) in
    there xs at.0 x (omega (arith, at.1, size)) (sym (get_or-take n xs at.0 0 b) ∙ at.2)

-- members from a place on
pub from_place : (xs : List ℕ) (n x : ℕ) → Contains (drop n xs) x → (p : ℕ) × (n ≤ p) × (p < length xs) × (get_or xs p 0 ≡ x)
from_place xs n x c =
    let at = place_of (drop n xs) x c in
    let size = length-drop n xs in
    (n + at.0, omega arith, omega (arith, at.1, size), sym (get_or-drop n xs at.0 0) ∙ at.2)

pub to_place : (xs : List ℕ) (n p x : ℕ) → n ≤ p → p < length xs → get_or xs p 0 ≡ x → Contains (drop n xs) x
to_place xs n p x m h e =
    let size = length-drop n xs in
    let k : ◌≡◌ {A = ℕ} (n + (p - n)) p = omega (arith, m) in
    there (drop n xs) (p - n) x (omega (arith, m, h, size)) (get_or-drop n xs (p - n) 0 ∙ ap (λ (i : ℕ). get_or xs i 0) k ∙ e)
