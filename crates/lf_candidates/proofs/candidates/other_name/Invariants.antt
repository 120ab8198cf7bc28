use Rattle.std.proofs.Common.{ℕ, ◌<◌, ◌+◌, ◌++◌, codes}
use Rattle.std.specs.List.{Contains}
use Rattle.std.specs.Prelude.{decimal}
use Rattle.lf_candidates.proofs.candidates.other_name.Given as goal

abbrev pub invariant-loop-number : goal.invariant-loop-number
invariant-loop-number l = (j : ℕ) → j < l.number → Contains l.universe.names (codes "x" ++ decimal (j + 1))
