use Rattle.std.proofs.Common.{◌≡◌, ◌<◌, ◌&&◌, ℕ, false}
use Rattle.lf_semantics.specs.ClassRows.{holds}
use Rattle.lf_candidates.proofs.candidates.first_common_class.Given as goal

abbrev pub invariant-loop-class : goal.invariant-loop-class
invariant-loop-class l = (j : ℕ) → j < l.class → (holds l.row l.label j && holds l.other l.label j) ≡ false
