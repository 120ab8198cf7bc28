-- Places of names among these and others behind them.
use Rattle.std.proofs.Common.{◌≡◌, ℕ, suc, ◌+◌, ◌<◌, ◌≤◌, Bool, true, false, not, cond, List, [], ◌∷◌, ◌++◌, length, refl, ap, arith, length-append}
use Rattle.std.specs.Str.{bytes_eq}
use Rattle.lf_ast.specs.Labels.{Bytes}
use Rattle.lf_semantics.specs.Listing.{place}
use Rattle.lf_deps.specs.views.Names.{IsPlaced}

pub place_front : (xs ys : List Bytes) (n : Bytes) → IsPlaced xs n → place (xs ++ ys) n ≡ place xs n
place_front [] ys n h = absurd (omega (arith, h))
place_front (x ∷ xs) ys n h = by (bytes_eq x n) h (place_front xs ys n)
  where
    by : (b : Bool) → cond (not b) (1 + place xs n) 0 < suc (length xs) → (IsPlaced xs n → place (xs ++ ys) n ≡ place xs n) → cond (not b) (1 + place (xs ++ ys) n) 0 ≡ cond (not b) (1 + place xs n) 0
    by true h rest = refl
    by false h rest = ap (λ (k : ℕ). 1 + k) (rest (omega (arith, h)))

pub in_front : (xs ys : List Bytes) (n : Bytes) → IsPlaced xs n → IsPlaced (xs ++ ys) n
in_front xs ys n h = let e = place_front xs ys n h in let size = length-append xs ys in omega (arith, e, size, h)

pub place_behind : (xs ys : List Bytes) (n : Bytes) → length xs ≤ place xs n → length xs ≤ place (xs ++ ys) n
place_behind [] ys n h = omega arith
place_behind (x ∷ xs) ys n h = by (bytes_eq x n) h (place_behind xs ys n)
  where
    by : (b : Bool) → suc (length xs) ≤ cond (not b) (1 + place xs n) 0 → (length xs ≤ place xs n → length xs ≤ place (xs ++ ys) n) → suc (length xs) ≤ cond (not b) (1 + place (xs ++ ys) n) 0
    by true h rest = absurd (omega (arith, h))
    by false h rest = let e = rest (omega (arith, h)) in omega (arith, e)
