use Rattle.std.proofs.Common.{◌≡◌, ℕ, ◌<◌, true}
use Rattle.lf_semantics.specs.ClassRows.{holds}
use Rattle.lf_classes.specs.views.Cut.{cut}
use Rattle.lf_classes.proofs.row.all_live.Given as goal

abbrev pub invariant-loop-label : goal.invariant-loop-label
invariant-loop-label l = (k : ℕ) → k < l.label → (c : ℕ) × (holds (cut l.shape l.bits) k c ≡ true)
