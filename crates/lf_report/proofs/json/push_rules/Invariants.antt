use Rattle.std.proofs.Common.{◌≡◌, ◌++◌, Some, false, map, take}
use Rattle.std.specs.Prelude.{slice_get}
use Rattle.lf_report.specs.Json.{rule_data}
use Rattle.lf_report.specs.Numbers.{rules_of}
use Rattle.lf_report.specs.declared.report.FileReport.{FileReport}
use Rattle.lf_report.specs.views.Pieces.{listed}
use Rattle.lf_report.proofs.json.push_rules.Given as goal

abbrev pub invariant-loop-k : goal.invariant-loop-k
invariant-loop-k l = (it : FileReport) → slice_get l.report.files l.file ≡ Some it → l.text ≡ l.initial.text ++ listed false (map (rule_data l.report it) (take l.k (rules_of l.report l.file)))
