-- What an option holds, and places that it holds.
use Rattle.std.proofs.Common.{◌≡◌, ℕ, suc, ◌+◌, Option, Some, None, refl, ap, arith}
use Rattle.std.specs.Prelude.{option_map}

-- an option holds one value
pub same_option : {X : Type 0} (o : Option X) (x y : X) → o ≡ Some x → o ≡ Some y → x ≡ y
same_option o x y e f = cc

-- a place that is told from the next one on
pub place_more : (i : ℕ) (o : Option ℕ) → option_map (λ n. i + n) (option_map suc o) ≡ option_map (λ n. i + 1 + n) o
place_more i None = refl
place_more i (Some n) = ap (λ (k : ℕ). Some k) (omega arith)

-- and from the start
pub place_from_start : (o : Option ℕ) → option_map (λ n. 0 + n) o ≡ o
place_from_start None = refl
place_from_start (Some n) = ap (λ (k : ℕ). Some k) (omega arith)
