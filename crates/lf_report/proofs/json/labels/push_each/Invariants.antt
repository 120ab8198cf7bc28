use Rattle.std.proofs.Common.{◌≡◌, ◌++◌, false, take}
use Rattle.lf_report.specs.Json.{labels_items}
use Rattle.lf_report.specs.views.Pieces.{listed}
use Rattle.lf_report.proofs.json.labels.push_each.Given as goal

abbrev pub invariant-loop-k : goal.invariant-loop-k
invariant-loop-k l = l.text ≡ l.initial.text ++ listed false (labels_items l.report (take l.k l.report.universe) (take l.k l.verdicts))
