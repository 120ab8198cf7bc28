-- The text of a report, line by line.
use Rattle.std.specs.Prelude.{ℕ, List, [], ◌∷◌, ◌++◌, map, length, count_by, codes, Option, None, Some, if◌then◌else◌}
use Rattle.std.specs.Fmt.{decimal}
use Rattle.std.specs.List.{flat_map}
use Rattle.lf_ast.specs.Labels.{Bytes}
use Rattle.lf_ast.specs.declared.verdict.RuleVerdicts.{RuleVerdicts}
use Rattle.lf_ast.specs.declared.verdict.RuleVerdicts.TheVariants.{Empty, Labels}
use Rattle.lf_ast.specs.declared.verdict.Verdict.{Verdict}
use Rattle.lf_ast.specs.declared.verdict.Verdict.TheVariants.{Guaranteed, Impossible, Possible, Unresolved}
use Rattle.lf_base.specs.Kinds.{name_of, meaning_of}
use Rattle.lf_base.specs.Lines.{lines_text}
use Rattle.lf_report.specs.Counts.{empty_count, is_guaranteed, is_impossible, is_possible, is_unresolved, note_count, problem_count, refused_count, verdicts_of}
use Rattle.lf_report.specs.Numbers.{numbered, rules_of}
use Rattle.lf_report.specs.Places.{place, place_in_rule}
use Rattle.lf_report.specs.Shown.{shown}
use Rattle.lf_report.specs.declared.report.FileReport.{FileReport}
use Rattle.lf_report.specs.declared.report.ReportedFinding.{ReportedFinding}
use Rattle.lf_report.specs.declared.report.Refused.{Refused}
use Rattle.lf_report.specs.declared.report.Report.{Report}
use Rattle.lf_report.specs.declared.report.RuleReport.{RuleReport}
use Rattle.lf_report.specs.declared.report.Severity.{Severity}
use Rattle.lf_report.specs.declared.report.Severity.TheVariants.{Problem, Note}

-- `FILE:LINE:COLUMN: refused [KIND] TEXT`, at the start of what breaks the rule
abbrev pub refused_line : FileReport → Refused → Bytes
refused_line file why = place shown file why.span.start ++ codes ": refused [" ++ name_of why.kind ++ codes "] " ++ meaning_of why.kind

-- `FILE:LINE:COLUMN: rule NAME`, at the name
abbrev pub rule_line : FileReport → RuleReport → Bytes
rule_line file rule = place shown file rule.name_span.start ++ codes ": rule " ++ shown rule.name

-- the verdict in words: what stays unresolved with the number of the construct that stands in the way, and where that stands
abbrev pub verdict_text : Report → Verdict → Bytes
verdict_text report Guaranteed = codes "guaranteed"
verdict_text report Impossible = codes "impossible"
verdict_text report (Possible with without) = codes "possible"
verdict_text report (Unresolved construct rule span) = codes "unresolved O" ++ decimal construct ++ codes " at " ++ place_in_rule shown report rule span.start

-- `  LABEL: VERDICT`
abbrev pub label_line : Report → Bytes → Verdict → Bytes
label_line report label verdict = codes "  " ++ shown label ++ codes ": " ++ verdict_text report verdict

-- a line for each label, with its verdict
abbrev pub label_lines : Report → List Bytes → List Verdict → List Bytes
label_lines report (label ∷ labels) (verdict ∷ verdicts) = label_line report label verdict ∷ label_lines report labels verdicts
label_lines report _ _ = []

-- a line for each label of the universe, or one that the rule is empty
abbrev pub said_lines : Report → RuleVerdicts → List Bytes
said_lines report Empty = codes "  empty" ∷ []
said_lines report (Labels verdicts) = label_lines report report.universe verdicts

-- where the verdicts are told, the rule's line, and what they say
abbrev pub verdict_lines : Report → FileReport → RuleReport → Option RuleVerdicts → List Bytes
verdict_lines report file rule None = []
verdict_lines report file rule (Some verdicts) = rule_line file rule ∷ said_lines report verdicts

-- the severity in words
abbrev pub severity_name : Severity → Bytes
severity_name Problem = codes "problem"
severity_name Note = codes "note"

-- `FILE:LINE:COLUMN: SEVERITY [CHECK] TEXT`, at the start of what the finding is about
abbrev pub finding_line : FileReport → ReportedFinding → Bytes
finding_line file finding = place shown file finding.span.start ++ codes ": " ++ severity_name finding.severity ++ codes " [" ++ finding.check.now ++ codes "] " ++ shown finding.text

-- what is told of a rule: the verdicts on its labels, and then a line for each finding
abbrev pub rule_lines : Report → FileReport → RuleReport → List Bytes
rule_lines report file rule = verdict_lines report file rule rule.verdicts ++ map (finding_line file) rule.findings

-- what is told of the file with this number: why it is refused, or else of each of its rules
abbrev pub file_lines : Report → ℕ → FileReport → Option Refused → List Bytes
file_lines report number file (Some why) = refused_line file why ∷ []
file_lines report number file None = flat_map (rule_lines report file) (rules_of report number)

-- the totals of files, rules and findings
abbrev pub totals_line : Report → Bytes
totals_line report = codes "files " ++ decimal (length report.files) ++ codes ", refused " ++ decimal (refused_count report) ++ codes ", rules " ++ decimal (length report.rules)
    ++ codes ", problems " ++ decimal (problem_count report) ++ codes ", notes " ++ decimal (note_count report)

-- the totals of verdicts
abbrev pub verdicts_line : Report → Bytes
verdicts_line report = codes "verdicts guaranteed " ++ decimal (count_by is_guaranteed (verdicts_of report.rules)) ++ codes ", impossible " ++ decimal (count_by is_impossible (verdicts_of report.rules))
    ++ codes ", possible " ++ decimal (count_by is_possible (verdicts_of report.rules)) ++ codes ", unresolved " ++ decimal (count_by is_unresolved (verdicts_of report.rules))
    ++ codes ", empty " ++ decimal (empty_count report.rules)

-- the totals, with those of verdicts where these are told
abbrev pub totals_lines : Report → List Bytes
totals_lines report = totals_line report ∷ (if report.labels then verdicts_line report ∷ [] else [])

-- what is told of all files
abbrev pub files_lines : Report → List Bytes
files_lines report = flat_map (λ (f : ℕ × FileReport). file_lines report f.0 f.1 f.1.refusal) (numbered 0 report.files)

-- what is told of each file, in their order, and the totals
abbrev pub report_text : Report → Bytes
report_text report = lines_text (files_lines report ++ totals_lines report)
