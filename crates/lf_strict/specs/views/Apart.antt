-- Lists of label sets, as they are made and when they are put in order.
use Rattle.std.specs.Prelude.{◌<◌, ℕ, ◌+◌, cond, List, [], ◌∷◌, Option, Some, None}
use Rattle.std.specs.Ordering.{eq_by_cmp}
use Rattle.lf_ast.specs.Labels.{Labels}
use Rattle.lf_witness.specs.Ascending.{IsAscending, labels_cmp}
use Rattle.lf_witness.specs.Strict.{AreSame}

-- how often a label set stands in a list
abbrev pub times : Labels → List Labels → ℕ
times s [] = 0
times s (t ∷ M) = cond (eq_by_cmp labels_cmp t s) 1 0 + times s M

-- some label set stands there twice
abbrev pub IsRepeated : List Labels → Type 0
IsRepeated M = (s : Labels) × (1 < times s M)

-- the list in ascending order, and None where a label set stands there twice
abbrev pub AreApart : List Labels → Option (List Labels) → Type 0
AreApart M None = IsRepeated M
AreApart M (Some R) = AreSame M R × IsAscending R × (IsRepeated M → ⊥)
