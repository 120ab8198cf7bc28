use Rattle.std.proofs.Common.{take}
use Rattle.lf_laws.specs.Gaining.{OfSome}
use Rattle.lf_checks.specs.views.Adding.{Adds}
use Rattle.lf_checks.specs.views.Sought.{IsNever}
use Rattle.lf_checks.proofs.match_label.judge_labels.Given as goal

abbrev pub invariant-loop-label : goal.invariant-loop-label
invariant-loop-label l = Adds (OfSome (IsNever l.universe l.row) (take l.label-index l.labels)) l.fn.found.items l.found.items
