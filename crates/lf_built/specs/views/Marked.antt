-- Marked rules: how contracts see the code. It defines nothing.
use Rattle.std.specs.Prelude.{◌≡◌, ℕ, false, List, [], ◌∷◌, reverse}
use Rattle.std.specs.BTreeSet.{BTreeSet, contains}
use Rattle.std.specs.Ordering.{nat_cmp}
use Rattle.lf_trials.specs.Reached.{is_marked}

-- no number stands there twice
abbrev pub IsEachOnce : List ℕ → Type 0
IsEachOnce [] = Unit {0}
IsEachOnce (k ∷ ks) = (is_marked ks k ≡ false) × IsEachOnce ks

-- the set has the numbers that are marked, and each is once
pub record AreMarks (numbers : List ℕ) (set : BTreeSet ℕ) : Type 0 where
  pub once : IsEachOnce (reverse numbers)
  pub told : (k : ℕ) → contains nat_cmp set k ≡ is_marked (reverse numbers) k
