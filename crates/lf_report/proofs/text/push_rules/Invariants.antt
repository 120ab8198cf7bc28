use Rattle.std.proofs.Common.{◌≡◌, ◌++◌, Some, take}
use Rattle.std.specs.Prelude.{slice_get}
use Rattle.std.specs.List.{flat_map}
use Rattle.lf_report.specs.Numbers.{rules_of}
use Rattle.lf_base.specs.Lines.{lines_text}
use Rattle.lf_report.specs.Text.{rule_lines}
use Rattle.lf_report.specs.declared.report.FileReport.{FileReport}
use Rattle.lf_report.proofs.text.push_rules.Given as goal

abbrev pub invariant-loop-k : goal.invariant-loop-k
invariant-loop-k l = (it : FileReport) → slice_get l.report.files l.file ≡ Some it → l.text ≡ l.initial.text ++ lines_text (flat_map (rule_lines l.report it) (take l.k (rules_of l.report l.file)))
