use Rattle.std.proofs.Common.{◌≡◌, ◌≤◌, drop, length}
use Rattle.lf_trials.specs.Candidates.{labels_in}
use Rattle.lf_trials.specs.Given.{Given, label_set}
use Rattle.lf_candidates.specs.views.ClassTexts.{Stands}
use Rattle.lf_candidates.proofs.given.LabelTexts.label_set.Given as goal

abbrev pub invariant-loop-label : goal.invariant-loop-label
invariant-loop-label l = record { within : l.label ≤ length (labels_in l.universe); made : (D : Given) → Stands l.universe l.self D → l.labels ≡ label_set (drop l.label (labels_in l.universe)) D }

abbrev pub decreases-loop-label : goal.decreases-loop-label
decreases-loop-label l = l.label
