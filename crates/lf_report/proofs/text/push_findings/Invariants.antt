use Rattle.std.proofs.Common.{◌≡◌, ◌++◌, Some, map, take}
use Rattle.std.specs.Prelude.{slice_get}
use Rattle.lf_base.specs.Lines.{lines_text}
use Rattle.lf_report.specs.Text.{finding_line}
use Rattle.lf_report.specs.declared.report.FileReport.{FileReport}
use Rattle.lf_report.proofs.text.push_findings.Given as goal

abbrev pub invariant-loop-finding : goal.invariant-loop-finding
invariant-loop-finding l = (it : FileReport) → slice_get l.report.files l.file ≡ Some it → l.text ≡ l.initial.text ++ lines_text (map (finding_line it) (take l.finding-index l.findings))
