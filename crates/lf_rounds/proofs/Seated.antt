-- What the facts of a seat say of how it is kept.
use Rattle.std.proofs.Common.{◌≡◌, ℕ, ◌+◌, ◌==◌, ◌&&◌, Bool, arith}
use Rattle.std.proofs.lemmas.Grind.{common_steps}

-- two seats are open where neither has a claim that found nothing
pub both_open : (a b : Bool) (m n : ℕ) → a ≡ (m == 0) → b ≡ (n == 0) → (a && b) ≡ (m + n == 0)
both_open a b m n p q = grind (arith, common_steps)
