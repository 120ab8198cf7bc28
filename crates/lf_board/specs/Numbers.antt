-- Lists of the numbers below a count.
use Rattle.std.specs.Prelude.{◌≡◌, ℕ, if◌then◌else◌, ◌==◌, nat_lt, List, length, count_by}

-- How often x stands in the list.
abbrev pub times : ℕ → List ℕ → ℕ
times x xs = count_by (λ y. x == y) xs

-- 1 for a number below n, and 0 from n on.
abbrev pub once_below : ℕ → ℕ → ℕ
once_below n x = if nat_lt x n then 1 else 0

-- The numbers below n, each once, in any order.
abbrev pub AreNumbersBelow : ℕ → List ℕ → Type 0
AreNumbersBelow n xs = (length xs ≡ n) × ((x : ℕ) → times x xs ≡ once_below n x)
