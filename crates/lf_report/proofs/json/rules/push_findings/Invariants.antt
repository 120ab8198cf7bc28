use Rattle.std.proofs.Common.{◌≡◌, ◌++◌, Some, false, map, take}
use Rattle.std.specs.Prelude.{slice_get}
use Rattle.lf_report.specs.Json.{finding_data}
use Rattle.lf_report.specs.declared.report.FileReport.{FileReport}
use Rattle.lf_report.specs.views.Pieces.{listed}
use Rattle.lf_report.proofs.json.rules.push_findings.Given as goal

abbrev pub invariant-loop-k : goal.invariant-loop-k
invariant-loop-k l = (it : FileReport) → slice_get l.report.files l.file ≡ Some it → l.text ≡ l.initial.text ++ listed false (map (finding_data it) (take l.k l.findings))
