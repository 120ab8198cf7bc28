use Rattle.std.proofs.Common.{◌≡◌, length}
use Rattle.lf_semantics.specs.ClassRows.{Sets}
use Rattle.lf_trials.specs.Given.{Given, completed_by}
use Rattle.lf_candidates.specs.views.ClassTexts.{Stands, StandsBefore}
use Rattle.lf_candidates.specs.views.Packed.{IsPacked}
use Rattle.lf_candidates.proofs.given.LabelTexts.complete.Given as goal

abbrev pub invariant-loop-label : goal.invariant-loop-label
invariant-loop-label l = record { count : length l.self ≡ length l.fn.self; stands : (whole : Sets) (D : Given) → IsPacked l.universe whole l.row → Stands l.universe l.fn.self D → StandsBefore l.universe l.fn.self l.label l.self (completed_by l.universe whole D) }
