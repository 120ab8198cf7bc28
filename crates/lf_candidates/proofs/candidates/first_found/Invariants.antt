use Rattle.std.proofs.Common.{◌≡◌, ◌<◌, ◌&&◌, ℕ, false}
use Rattle.lf_semantics.specs.ClassRows.{holds}
use Rattle.lf_trials.specs.Candidates.{has_presence}
use Rattle.lf_candidates.specs.views.ClassTexts.{text_at}
use Rattle.lf_candidates.proofs.candidates.first_found.Given as goal

abbrev pub invariant-loop-class : goal.invariant-loop-class
invariant-loop-class l = (j : ℕ) → j < l.class → (holds l.row l.label j && has_presence l.presence (text_at l.universe l.label j)) ≡ false
