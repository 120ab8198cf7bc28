-- Rows of bytes of a class.
use Rattle.std.proofs.Common.{◌≡◌, ℕ, suc, ◌+◌, ◌≤◌, Bool, true, false, cond, List, [], ◌∷◌, ◌++◌, length, take, drop, refl, ap, arith}
use Rattle.std.proofs.lemmas.Bool.{and_parts}
use Rattle.std.specs.List.{prefix_len, list_all}
use Rattle.lf_base.specs.Rows.{Stops}

pub row_all : (p : ℕ → Bool) (src : List ℕ) → list_all p (take (prefix_len p src) src) ≡ true
row_all p [] = refl
row_all p (b ∷ src) = by (row_all p src) (p b) refl
  where
    by : list_all p (take (prefix_len p src) src) ≡ true → (t : Bool) → p b ≡ t → list_all p (take (cond (p b) (1 + prefix_len p src) 0) (b ∷ src)) ≡ true
    by again true e = let k : 1 + prefix_len p src ≡ suc (prefix_len p src) = omega arith in rw (e, k, e) again
    by again false e = rw e refl

-- a row goes on at least as far as what is known to be of the class
pub row_past : (p : ℕ → Bool) (text left : List ℕ) → list_all p text ≡ true → prefix_len p (text ++ left) ≡ length text + prefix_len p left
row_past p [] left h = omega arith
row_past p (b ∷ text) left h =
    let a = and_parts (p b) (list_all p text) h in
    let e = row_past p text left a.1 in
    rw a.0 (omega arith)

-- and stops where the next byte isn't
row_stops : (p : ℕ → Bool) (rest : List ℕ) → Stops p rest → prefix_len p rest ≡ 0
row_stops p [] h = refl
row_stops p (b ∷ rest) h = rw h refl

pub row_is : (p : ℕ → Bool) (text rest : List ℕ) → list_all p text ≡ true → Stops p rest → prefix_len p (text ++ rest) ≡ length text
row_is p text rest h s = let e = row_past p text rest h in let z = row_stops p rest s in omega arith

pub row_then : (p : ℕ → Bool) (src : List ℕ) → Stops p (drop (prefix_len p src) src)
row_then p [] = refl
row_then p (b ∷ src) = by (row_then p src) (p b) refl
  where
    by : Stops p (drop (prefix_len p src) src) → (t : Bool) → p b ≡ t → Stops p (drop (cond (p b) (1 + prefix_len p src) 0) (b ∷ src))
    by again true e = let k : 1 + prefix_len p src ≡ suc (prefix_len p src) = omega arith in rw (e, k) again
    by again false e = rw e e

pub row_bound : (p : ℕ → Bool) (src text left : List ℕ) → src ≡ text ++ left → list_all p text ≡ true → length text ≤ prefix_len p src
row_bound p src text left e h = let r = row_past p text left h in let k = ap (prefix_len p) e in omega arith
