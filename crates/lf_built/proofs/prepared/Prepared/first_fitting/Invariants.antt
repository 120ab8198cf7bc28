use Rattle.std.proofs.Common.{◌≡◌, ◌<◌, ℕ, false, get_or}
use Rattle.lf_trials.specs.Given.{Given}
use Rattle.lf_candidates.specs.views.ClassTexts.{Stands}
use Rattle.lf_built.specs.views.Indexed.{universe_of}
use Rattle.lf_built.proofs.Fits.{fits_by}
use Rattle.lf_built.proofs.prepared.Prepared.first_fitting.Given as goal

abbrev pub invariant-loop-number : goal.invariant-loop-number
invariant-loop-number l = (D : Given) → Stands (universe_of l.self) l.texts D → (k : ℕ) → k < l.number-index → fits_by l.self l.marked D (get_or l.number-items k 0) ≡ false
