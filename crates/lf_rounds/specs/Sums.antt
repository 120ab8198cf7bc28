-- Sums of words. Words only grow while they are raised, so what was loaded of rows is what stands there exactly where the sums are the same.
use Rattle.std.specs.Prelude.{ℕ, ◌*◌, List, take, drop, sum, sum_by}
use Rattle.lf_rounds.specs.declared.rule.Load.{Load}

-- of the words of a row, which has so many, and of the rows of these numbers
abbrev pub sum_of_row : ℕ → List ℕ → ℕ → ℕ
sum_of_row wide words number = sum (take wide (drop (number * wide) words))

abbrev pub sum_of_rows : ℕ → List ℕ → List ℕ → ℕ
sum_of_rows wide words numbers = sum_by (sum_of_row wide words) numbers

-- of the words that were loaded
abbrev pub sum_of_loads : List Load → ℕ
sum_of_loads loads = sum_by (λ (l : Load). l.word) loads
