use Rattle.std.proofs.Common.{◌≡◌, ◌++◌, ℕ, List, map, take}
use Rattle.lf_report.specs.views.Heads.{label_head}
use Rattle.lf_base.specs.Lines.{lines_text}
use Rattle.lf_report.specs.Text.{label_lines}
use Rattle.lf_report.proofs.text.labels.push_labels.Given as goal

abbrev pub invariant-loop-k : goal.invariant-loop-k
invariant-loop-k l = (names : List (List ℕ)) → l.labels ≡ map label_head names → l.text ≡ l.initial.text ++ lines_text (label_lines l.report (take l.k names) (take l.k l.verdicts))
