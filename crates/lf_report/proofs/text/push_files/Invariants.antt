use Rattle.std.proofs.Common.{◌≡◌, ◌++◌, take}
use Rattle.lf_base.specs.Lines.{lines_text}
use Rattle.lf_report.proofs.Lines.{some_files_lines}
use Rattle.lf_report.proofs.text.push_files.Given as goal

abbrev pub invariant-loop-k : goal.invariant-loop-k
invariant-loop-k l = l.text ≡ l.initial.text ++ lines_text (some_files_lines l.report (take l.k l.report.files))
