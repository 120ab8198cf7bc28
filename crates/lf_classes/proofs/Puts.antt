-- Bits that are set one after the other.
use Rattle.std.proofs.Common.{◌≡◌, ℕ, ◌+◌, ◌<◌, ◌≤◌, Bool, false, List, length, get_or}

-- from a place on so many bits are those of `f`, and the others are as they were
pub record ArePut (f : ℕ → Bool) (old new : List Bool) (from done : ℕ) : Type 0 where
  pub len : length new ≡ length old
  pub inside : (k : ℕ) → k < done → get_or new (from + k) false ≡ f k
  pub below : (k : ℕ) → k < from → get_or new k false ≡ get_or old k false
  pub above : (k : ℕ) → from + done ≤ k → get_or new k false ≡ get_or old k false
