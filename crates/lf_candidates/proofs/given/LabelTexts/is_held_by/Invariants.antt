use Rattle.std.proofs.Common.{◌≡◌, true, take}
use Rattle.std.specs.List.{list_all}
use Rattle.std.specs.Option.{option_map_or}
use Rattle.lf_trials.specs.Candidates.{labels_in}
use Rattle.lf_trials.specs.Given.{Given, holds_text}
use Rattle.lf_candidates.specs.views.ClassTexts.{Stands}
use Rattle.lf_candidates.proofs.given.LabelTexts.is_held_by.Given as goal

abbrev pub invariant-loop-label : goal.invariant-loop-label
invariant-loop-label l = (D : Given) → Stands l.universe l.self D → list_all (λ name. option_map_or (holds_text l.universe l.row name) (D name) true) (take l.label (labels_in l.universe)) ≡ true
