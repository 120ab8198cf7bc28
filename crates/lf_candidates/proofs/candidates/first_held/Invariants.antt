use Rattle.std.proofs.Common.{◌≡◌, ◌<◌, ℕ, false}
use Rattle.lf_semantics.specs.ClassRows.{holds}
use Rattle.lf_candidates.proofs.candidates.first_held.Given as goal

abbrev pub invariant-loop-class : goal.invariant-loop-class
invariant-loop-class l = (j : ℕ) → j < l.class → holds l.row l.label j ≡ false
