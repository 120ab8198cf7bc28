-- The JSON of a report, object by object. The members of each object stand in the byte order of their keys.
use Rattle.std.specs.Prelude.{ℕ, Bool, List, [], ◌∷◌, ◌++◌, map, length, count_by, codes, fold, Option, None, Some, if◌then◌else◌}
use Rattle.std.specs.Fmt.{decimal}
use Rattle.std.specs.FinMap as map_of
use Rattle.serde_json.specs.Data.{Data, Members, null, boolean, number, unsigned, string, array, object, member, no_members, put}
use Rattle.serde_json.specs.View.{items_of}
use Rattle.serde_json.specs.Written.{compact_text}
use Rattle.lf_ast.specs.Labels.{Bytes, Labels as LabelMap}
use Rattle.lf_ast.specs.declared.verdict.RuleVerdicts.{RuleVerdicts}
use Rattle.lf_ast.specs.declared.verdict.RuleVerdicts.TheVariants.{Empty, Labels}
use Rattle.lf_ast.specs.declared.verdict.Verdict.{Verdict}
use Rattle.lf_ast.specs.declared.verdict.Verdict.TheVariants.{Guaranteed, Impossible, Possible, Unresolved}
use Rattle.lf_ast.specs.declared.verdict.World.{World}
use Rattle.lf_base.specs.Kinds.{name_of, meaning_of}
use Rattle.lf_base.specs.Places.{line_at, column_at}
use Rattle.lf_report.specs.Counts.{empty_count, is_guaranteed, is_impossible, is_possible, is_unresolved, note_count, problem_count, refused_count, verdicts_of}
use Rattle.lf_report.specs.Numbers.{numbered, rules_of}
use Rattle.lf_report.specs.Places.{place_in_rule}
use Rattle.lf_report.specs.Text.{severity_name}
use Rattle.lf_report.specs.declared.report.FileReport.{FileReport}
use Rattle.lf_report.specs.declared.report.ReportedFinding.{ReportedFinding}
use Rattle.lf_report.specs.declared.report.Refused.{Refused}
use Rattle.lf_report.specs.declared.report.Report.{Report}
use Rattle.lf_report.specs.declared.report.RuleReport.{RuleReport}

abbrev pub count_data : ℕ → Data
count_data n = number (unsigned n)

abbrev pub list_data : List Data → Data
list_data ds = array (items_of ds)

-- the labels of a label set with their texts, by their names
abbrev pub set_members : List (Bytes × Bytes) → Members
set_members entries = fold (λ ms (entry : Bytes × Bytes). put entry.0 (string entry.1) ms) no_members entries

-- a label set
abbrev pub set_data : LabelMap → Data
set_data set = object (set_members (map_of.entries set))

-- a world: the sample that it shows, its series, and the numbers of the rules that are evaluated
abbrev pub world_data : World → Data
world_data world = object
    (member (codes "sample") (set_data world.sample)
    (member (codes "series") (list_data (map set_data world.series))
    (member (codes "steps") (list_data (map count_data world.steps)) no_members)))

-- a label with its verdict, where there is no more to tell
abbrev pub plain_data : Bytes → Bytes → Data
plain_data label verdict = object
    (member (codes "label") (string label)
    (member (codes "verdict") (string verdict) no_members))

-- a possible label, with a world that shows it and one that shows a sample without it
abbrev pub possible_data : Bytes → World → World → Data
possible_data label with without = object
    (member (codes "label") (string label)
    (member (codes "verdict") (string (codes "possible"))
    (member (codes "with") (world_data with)
    (member (codes "without") (world_data without) no_members))))

-- an unresolved label, with the construct that stands in the way and its place. The file's name stands there as it is
abbrev pub unresolved_data : Bytes → ℕ → Bytes → Data
unresolved_data label construct place = object
    (member (codes "construct") (string (codes "O" ++ decimal construct))
    (member (codes "label") (string label)
    (member (codes "place") (string place)
    (member (codes "verdict") (string (codes "unresolved")) no_members))))

-- a label with its verdict
abbrev pub label_data : Report → Bytes → Verdict → Data
label_data report label Guaranteed = plain_data label (codes "guaranteed")
label_data report label Impossible = plain_data label (codes "impossible")
label_data report label (Possible with without) = possible_data label with without
label_data report label (Unresolved construct rule span) = unresolved_data label construct (place_in_rule (λ name. name) report rule span.start)

-- each label with its verdict
abbrev pub labels_items : Report → List Bytes → List Verdict → List Data
labels_items report (label ∷ labels) (verdict ∷ verdicts) = label_data report label verdict ∷ labels_items report labels verdicts
labels_items report _ _ = []

-- each label of the universe with its verdict, or none where the rule is empty
abbrev pub said_items : Report → RuleVerdicts → List Data
said_items report Empty = []
said_items report (Labels verdicts) = labels_items report report.universe verdicts

-- the labels of a rule, where verdicts are told
abbrev pub labels_data : Report → Option RuleVerdicts → Data
labels_data report None = null
labels_data report (Some verdicts) = list_data (said_items report verdicts)

-- a finding; its line and column are those of its start
abbrev pub finding_data : FileReport → ReportedFinding → Data
finding_data file finding = object
    (member (codes "check") (string finding.check.now)
    (member (codes "column") (count_data (column_at file.source finding.span.start))
    (member (codes "end") (count_data finding.span.end)
    (member (codes "line") (count_data (line_at file.source finding.span.start))
    (member (codes "severity") (string (severity_name finding.severity))
    (member (codes "start") (count_data finding.span.start)
    (member (codes "text") (string finding.text) no_members)))))))

abbrev pub kind_name : Bool → Bytes
kind_name alert = if alert then codes "alert" else codes "record"

-- what is told of a rule
abbrev pub rule_object : ℕ → Bool → Data → Bytes → Data → ℕ → Bytes → Data
rule_object column empty findings kind labels line name = object
    (member (codes "column") (count_data column)
    (member (codes "empty") (boolean empty)
    (member (codes "findings") findings
    (member (codes "kind") (string kind)
    (member (codes "labels") labels
    (member (codes "line") (count_data line)
    (member (codes "name") (string name) no_members)))))))

-- a rule; its line and column are those of its name
abbrev pub rule_data : Report → FileReport → RuleReport → Data
rule_data report file rule = rule_object (column_at file.source rule.name_span.start) rule.empty (list_data (map (finding_data file) rule.findings)) (kind_name rule.alert)
    (labels_data report rule.verdicts) (line_at file.source rule.name_span.start) rule.name

-- why a file is refused, if it is; the line and the column are those of the start
abbrev pub refusal_data : FileReport → Option Refused → Data
refusal_data file None = null
refusal_data file (Some why) = object
    (member (codes "column") (count_data (column_at file.source why.span.start))
    (member (codes "end") (count_data why.span.end)
    (member (codes "kind") (string (name_of why.kind))
    (member (codes "line") (count_data (line_at file.source why.span.start))
    (member (codes "start") (count_data why.span.start)
    (member (codes "text") (string (meaning_of why.kind)) no_members))))))

-- the rules that are told of the file with this number: none of a refused one
abbrev pub told_rules : Report → ℕ → Option Refused → List RuleReport
told_rules report n None = rules_of report n
told_rules report n (Some why) = []

-- the file with this number
abbrev pub file_data : Report → ℕ → FileReport → Data
file_data report n file = object
    (member (codes "name") (string file.name)
    (member (codes "refusal") (refusal_data file file.refusal)
    (member (codes "rules") (list_data (map (rule_data report file) (told_rules report n file.refusal))) no_members)))

-- totals of verdicts: how many rules are empty, and how many labels have each verdict
abbrev pub counts_data : ℕ → ℕ → ℕ → ℕ → ℕ → Data
counts_data empty guaranteed impossible possible unresolved = object
    (member (codes "empty") (count_data empty)
    (member (codes "guaranteed") (count_data guaranteed)
    (member (codes "impossible") (count_data impossible)
    (member (codes "possible") (count_data possible)
    (member (codes "unresolved") (count_data unresolved) no_members)))))

-- the totals of verdicts, where these are told
abbrev pub verdicts_data : Report → Data
verdicts_data report = if report.labels
    then counts_data (empty_count report.rules) (count_by is_guaranteed (verdicts_of report.rules)) (count_by is_impossible (verdicts_of report.rules))
    (count_by is_possible (verdicts_of report.rules)) (count_by is_unresolved (verdicts_of report.rules))
    else null

-- totals of files, notes, problems, refused files and rules, and those of verdicts
abbrev pub summary_object : ℕ → ℕ → ℕ → ℕ → ℕ → Data → Data
summary_object files notes problems refused rules verdicts = object
    (member (codes "files") (count_data files)
    (member (codes "notes") (count_data notes)
    (member (codes "problems") (count_data problems)
    (member (codes "refused") (count_data refused)
    (member (codes "rules") (count_data rules)
    (member (codes "verdicts") verdicts no_members))))))

-- the totals of the report
abbrev pub summary_data : Report → Data
summary_data report =
    summary_object (length report.files) (note_count report) (problem_count report) (refused_count report) (length report.rules) (verdicts_data report)

-- the files, in their order
abbrev pub files_items : Report → List Data
files_items report = map (λ (f : ℕ × FileReport). file_data report f.0 f.1) (numbered 0 report.files)

abbrev pub report_data : Report → Data
report_data report = object
    (member (codes "files") (list_data (files_items report))
    (member (codes "summary") (summary_data report) no_members))

-- one compact object and a line feed
abbrev pub report_json : Report → Bytes
report_json report = compact_text (report_data report) ++ 10 ∷ []
