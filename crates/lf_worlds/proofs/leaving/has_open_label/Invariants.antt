use Rattle.std.proofs.Common.{◌≡◌, drop}
use Rattle.std.specs.List.{list_any}
use Rattle.lf_trials.specs.Candidates.{labels_in}
use Rattle.lf_worlds.specs.views.Tried.{leaves_both}
use Rattle.lf_worlds.proofs.leaving.has_open_label.Given as goal

abbrev pub invariant-loop-label : goal.invariant-loop-label
invariant-loop-label l = list_any (leaves_both l.universe l.row) (labels_in l.universe) ≡ list_any (leaves_both l.universe l.row) (drop l.label (labels_in l.universe))
