-- How many of what a report has.
use Rattle.std.specs.Prelude.{ℕ, Bool, true, false, not, List, Option, Some, count_by, is_some}
use Rattle.std.specs.List.{flat_map}
use Rattle.lf_ast.specs.declared.verdict.RuleVerdicts.{RuleVerdicts}
use Rattle.lf_ast.specs.declared.verdict.RuleVerdicts.TheVariants.{Empty}
use Rattle.lf_ast.specs.declared.verdict.Verdict.{Verdict}
use Rattle.lf_ast.specs.declared.verdict.Verdict.TheVariants.{Guaranteed, Impossible, Possible, Unresolved}
use Rattle.lf_report.specs.Numbers.{labels_of}
use Rattle.lf_report.specs.declared.report.FileReport.{FileReport}
use Rattle.lf_report.specs.declared.report.ReportedFinding.{ReportedFinding}
use Rattle.lf_report.specs.declared.report.Report.{Report}
use Rattle.lf_report.specs.declared.report.RuleReport.{RuleReport}
use Rattle.lf_report.specs.declared.report.Severity.{Severity}
use Rattle.lf_report.specs.declared.report.Severity.TheVariants.{Problem, Note}

abbrev pub is_grave : Severity → Bool
is_grave Problem = true
is_grave Note = false

abbrev pub is_problem : ReportedFinding → Bool
is_problem finding = is_grave finding.severity

abbrev pub is_note : ReportedFinding → Bool
is_note finding = not (is_problem finding)

-- the findings of rules
abbrev pub findings_of : List RuleReport → List ReportedFinding
findings_of rules = flat_map (λ (rule : RuleReport). rule.findings) rules

-- how many findings are problems
abbrev pub problem_count : Report → ℕ
problem_count report = count_by is_problem (findings_of report.rules)

-- how many are notes, which are all others
abbrev pub note_count : Report → ℕ
note_count report = count_by is_note (findings_of report.rules)

-- how many files are refused
abbrev pub refused_count : Report → ℕ
refused_count report = count_by (λ (file : FileReport). is_some file.refusal) report.files

-- the verdicts on the labels of rules
abbrev pub verdicts_of : List RuleReport → List Verdict
verdicts_of rules = flat_map (λ (rule : RuleReport). labels_of rule.verdicts) rules

unfoldable pub is_guaranteed : Verdict → Bool
is_guaranteed Guaranteed = true
is_guaranteed _ = false

unfoldable pub is_impossible : Verdict → Bool
is_impossible Impossible = true
is_impossible _ = false

unfoldable pub is_possible : Verdict → Bool
is_possible (Possible with without) = true
is_possible _ = false

unfoldable pub is_unresolved : Verdict → Bool
is_unresolved (Unresolved construct rule span) = true
is_unresolved _ = false

-- the verdict on the rule is that it is empty
abbrev pub is_empty : Option RuleVerdicts → Bool
is_empty (Some Empty) = true
is_empty _ = false

-- how many rules are empty by the verdicts on them
abbrev pub empty_count : List RuleReport → ℕ
empty_count rules = count_by (λ (rule : RuleReport). is_empty rule.verdicts) rules
