use Rattle.std.proofs.Common.{ℕ, ◌<◌, ◌+◌, ◌++◌, codes}
use Rattle.std.specs.List.{Contains}
use Rattle.std.specs.Prelude.{decimal}
use Rattle.lf_classes.proofs.classes.first_free.Given as goal

abbrev pub invariant-loop-number : goal.invariant-loop-number
invariant-loop-number l = (j : ℕ) → j < l.number → Contains l.taken (codes "v" ++ decimal (j + 1))
