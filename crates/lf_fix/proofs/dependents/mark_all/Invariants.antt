use Rattle.std.proofs.Common.{◌≡◌, ◌<◌, ℕ, true, ◌⊎◌, get_or, take}
use Rattle.std.specs.List.{Contains}
use Rattle.lf_fix.proofs.dependents.mark_all.Given as goal

abbrev pub invariant-loop-number : goal.invariant-loop-number
invariant-loop-number l =
    ((k : ℕ) → get_or l.fn.marks k true ≡ true → get_or l.marks k true ≡ true)
    × ((j k : ℕ) → j < l.number-index → get_or l.numbers j k ≡ k → get_or l.marks k true ≡ true)
    × ((k : ℕ) → get_or l.marks k true ≡ true → (get_or l.fn.marks k true ≡ true) ⊎ Contains (take l.number-index l.numbers) k)
