-- The number that hexadecimal digits tell, digit by digit.
use Rattle.std.proofs.Common.{◌≡◌, ℕ, zero, suc, ◌+◌, ◌*◌, ◌<◌, ◌≤◌, List, Some, None, length, get_or, drop, refl, ap, add-one, arith}
use Rattle.std.proofs.lemmas.List.{drop_all}
use Rattle.lf_scalar.specs.Cells.{cells}
use Rattle.lf_scalar.specs.reading.Quoted.{told}
use Rattle.lf_scalar.proofs.Cells.{cells-drop}
use Rattle.lf_base.specs.Names.{hexadecimal_value}

-- 16 to a power
abbrev pub most : ℕ → ℕ
most zero = 1
most (suc k) = 16 * most k

pub most-small : (i : ℕ) → i < 8 → most i ≤ 268435456
most-small zero lt = omega arith
most-small (suc zero) lt = omega arith
most-small (suc (suc zero)) lt = omega arith
most-small (suc (suc (suc zero))) lt = omega arith
most-small (suc (suc (suc (suc zero)))) lt = omega arith
most-small (suc (suc (suc (suc (suc zero))))) lt = omega arith
most-small (suc (suc (suc (suc (suc (suc zero)))))) lt = omega arith
most-small (suc (suc (suc (suc (suc (suc (suc zero))))))) lt = omega arith
most-small (suc (suc (suc (suc (suc (suc (suc (suc i)))))))) lt = absurd (omega arith)

pub most-more : (i value next : ℕ) → value < most i → next < 16 → 16 * value + next < most (i + 1)
most-more i value next lt small = let e : most (i + 1) ≡ 16 * most i = ap (λ (n : ℕ). most n) (add-one i) in omega (arith, e)

module _ (at : ℕ) (digits : List ℕ) (i : ℕ) (lt : i < length digits) where
  pub told-digit : (value next : ℕ) → Some next ≡ hexadecimal_value (get_or digits i 0) → told value (cells (at + i) (drop i digits)) ≡ told (16 * value + next) (cells (at + (i + 1)) (drop (i + 1) digits))
  told-digit value next e = rw (cells-drop at digits i lt, ← e) refl

  pub told-none : (value : ℕ) → None ≡ hexadecimal_value (get_or digits i 0) → told value (cells (at + i) (drop i digits)) ≡ None
  told-none value e = rw (cells-drop at digits i lt, ← e) refl

pub told-end : (at value : ℕ) (digits : List ℕ) (i : ℕ) → length digits ≤ i → told value (cells (at + i) (drop i digits)) ≡ Some value
told-end at value digits i le = rw (drop_all i digits le) refl
