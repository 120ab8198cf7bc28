use Rattle.std.proofs.Common.{◌≡◌, length}
use Rattle.lf_classes.specs.Limits.{IsWithin}
use Rattle.lf_semantics.specs.Listing.{Listing}
use Rattle.lf_trials.specs.Candidates.{labels_in}
use Rattle.lf_trials.specs.Given.{Given, losing}
use Rattle.lf_candidates.specs.views.ClassTexts.{Stands, StandsBefore}
use Rattle.lf_candidates.proofs.given.LabelTexts.lose.Given as goal

abbrev pub invariant-loop-label : goal.invariant-loop-label
invariant-loop-label g l = record { count : length l.self ≡ length l.fn.self; stands : (u : Listing) (D : Given) → IsWithin u → l.names ≡ labels_in u → Stands u l.fn.self D → StandsBefore u l.fn.self l.label l.self (losing (g.C.LabelChoice.chooses l.choice) D) }
