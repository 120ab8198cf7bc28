use Rattle.std.proofs.Common.{◌≡◌, ◌++◌, ℕ, false, map, take}
use Rattle.lf_report.specs.Json.{file_data}
use Rattle.lf_report.specs.Numbers.{numbered}
use Rattle.lf_report.specs.declared.report.FileReport.{FileReport}
use Rattle.lf_report.specs.views.Pieces.{listed}
use Rattle.lf_report.proofs.json.push_files.Given as goal

abbrev pub invariant-loop-k : goal.invariant-loop-k
invariant-loop-k l = l.text ≡ l.initial.text ++ listed false (map (λ (f : ℕ × FileReport). file_data l.report f.0 f.1) (numbered 0 (take l.k l.report.files)))
