-- The report on files: what stands in them, and of each rule the verdicts on its labels and its findings.
use Rattle.std.specs.List.{list_any}
use Rattle.std.specs.Prelude.{◌≡◌, ℕ, suc, Bool, true, false, List, [], ◌∷◌, ◌++◌, map, codes, Option, Some, None, if◌then◌else◌, slice_get}
use Rattle.lf_ast.specs.Labels.{Bytes}
use Rattle.lf_ast.specs.Rules.{RuleTree}
use Rattle.lf_ast.specs.declared.verdict.RuleVerdicts.{RuleVerdicts}
use Rattle.lf_ast.specs.declared.verdict.RuleVerdicts.TheVariants as told_rule
use Rattle.lf_ast.specs.declared.verdict.Verdict.{Verdict}
use Rattle.lf_ast.specs.declared.verdict.Verdict.TheVariants as told
use Rattle.lf_ast.specs.declared.verdict.World.{World}
use Rattle.lf_base.specs.declared.place.Span.{Span}
use Rattle.lf_checks.specs.Files.{File}
use Rattle.lf_checks.specs.Finding.{Finding, Severity, Problem, Note, name_of}
use Rattle.lf_checks.specs.Findings.{AreFindings, severity_of}
use Rattle.lf_open.specs.Constructs.{number_of}
use Rattle.lf_open.specs.OpenList.{IsFirstOpen}
use Rattle.lf_open.specs.declared.open_at.OpenAt.{OpenAt}
use Rattle.lf_report.specs.declared.report.FileReport.{FileReport}
use Rattle.lf_report.specs.declared.report.ReportedFinding.{ReportedFinding}
use Rattle.lf_report.specs.declared.report.Report.{Report}
use Rattle.lf_report.specs.declared.report.RuleReport.{RuleReport}
use Rattle.lf_report.specs.declared.report.Severity.{Severity as ToldSeverity}
use Rattle.lf_report.specs.declared.report.Severity.TheVariants as grave
use Rattle.lf_semantics.specs.Environments.{IsLeast}
use Rattle.lf_semantics.specs.Listing.{Listing, universe_of}
use Rattle.lf_semantics.specs.RowTable.{Environment}
use Rattle.lf_trials.specs.Trials.{Shown}
use Rattle.lf_trials.specs.Verdicts.{IsRuleVerdict, LabelVerdict, RuleVerdict, Empty, Labels}
use Rattle.lf_trials.specs.Verdicts as verdict
use Rattle.lf_judge.specs.Founds.{AreContents, Content, Rules, Refused, accepted}
use Rattle.lf_judge.specs.declared.source.Source.{Source}

-- the files that were read
abbrev pub file_of : Source → File
file_of source = record { name = source.name; bytes = source.bytes }

abbrev pub files_of : List Source → List File
files_of sources = map file_of sources

abbrev pub is_unresolved : LabelVerdict → Bool
is_unresolved verdict.Unresolved = true
is_unresolved _ = false

-- some label of the rule stays unresolved
abbrev pub has_unresolved : RuleVerdict → Bool
has_unresolved Empty = false
has_unresolved (Labels verdicts) = list_any is_unresolved verdicts

-- a rule, the verdict on it, what stands in the way of an answer, and its findings
pub record Checked : Type 0 where
  pub rule : RuleTree
  pub verdict : RuleVerdict
  pub first : Option OpenAt
  pub found : List Finding

-- These are the rules, in their order, each with its verdict and the list of its findings; and where verdicts are told and leave a label unresolved, with the first construct that
-- stands open for the rule
pub record AreChecked (files : List File) (labels : Bool) (rules : List RuleTree) (env : Environment) (checked : List Checked) : Type 0 where
  pub each_rule : map (λ c. c.rule) checked ≡ rules
  pub each_verdict : (i : ℕ) (c : Checked) → slice_get checked i ≡ Some c → IsRuleVerdict (universe_of rules) env rules i c.rule c.verdict
  pub each_open : labels ≡ true → (i : ℕ) (c : Checked) → slice_get checked i ≡ Some c → has_unresolved c.verdict ≡ true → IsFirstOpen rules i c.first
  pub each_list : (i : ℕ) (c : Checked) → slice_get checked i ≡ Some c → AreFindings files rules env i c.found

-- ---- how the report tells it

-- the labels of which a report speaks: those of the universe, and `*` for every other
abbrev pub labels_of : Listing → List Bytes
labels_of u = u.names ++ codes "*" ∷ []

-- a world that shows something of a label
abbrev pub world_told : Shown → World
world_told shown = record { series = shown.trial.series; steps = shown.trial.steps; sample = shown.sample }

-- What stays unresolved names the first construct that stands open for the rule, and its place. There always is one where a label stays unresolved, as a law says; else the rule's own
-- expression would be named, by the number 0
abbrev pub unresolved_told : Option OpenAt → ℕ → RuleTree → Verdict
unresolved_told None i r = told.Unresolved 0 i r.expr_span
unresolved_told (Some first) i r = told.Unresolved (number_of first.construct) first.rule first.span

-- a verdict on a label of the rule with a number
abbrev pub verdict_told : Option OpenAt → ℕ → RuleTree → LabelVerdict → Verdict
verdict_told first i r verdict.Guaranteed = told.Guaranteed
verdict_told first i r verdict.Impossible = told.Impossible
verdict_told first i r (verdict.Possible present absent) = told.Possible (world_told present) (world_told absent)
verdict_told first i r verdict.Unresolved = unresolved_told first i r

abbrev pub verdicts_told : Option OpenAt → ℕ → RuleTree → RuleVerdict → RuleVerdicts
verdicts_told first i r Empty = told_rule.Empty
verdicts_told first i r (Labels verdicts) = told_rule.Labels (map (verdict_told first i r) verdicts)

abbrev pub is_empty : RuleVerdict → Bool
is_empty Empty = true
is_empty (Labels verdicts) = false

abbrev pub severity_told : Severity → ToldSeverity
severity_told Problem = grave.Problem
severity_told Note = grave.Note

-- a finding of a report, without the address at which the name of its check stands
pub record ToldFinding : Type 0 where
  pub check : Bytes
  pub severity : ToldSeverity
  pub span : Span
  pub text : Bytes

abbrev pub finding_in : ReportedFinding → ToldFinding
finding_in f = record { check = f.check.now; severity = f.severity; span = f.span; text = f.text }

abbrev pub finding_told : Finding → ToldFinding
finding_told f = record { check = name_of f.check; severity = severity_told (severity_of f.check); span = f.span; text = f.text }

-- what a report tells of a rule, without these addresses
pub record ToldRule : Type 0 where
  pub file : ℕ
  pub alert : Bool
  pub name : Bytes
  pub name_span : Span
  pub verdicts : Option RuleVerdicts
  pub empty : Bool
  pub findings : List ToldFinding

abbrev pub rule_in : RuleReport → ToldRule
rule_in r = record { file = r.file; alert = r.alert; name = r.name; name_span = r.name_span; verdicts = r.verdicts; empty = r.empty; findings = map finding_in r.findings }

-- what is told of the rule with a number; the verdicts where they are asked for
abbrev pub rule_told : Bool → ℕ → Checked → ToldRule
rule_told labels i c = record {
  file = c.rule.file;
  alert = c.rule.alert;
  name = c.rule.name;
  name_span = c.rule.name_span;
  verdicts = if labels then Some (verdicts_told c.first i c.rule c.verdict) else None;
  empty = is_empty c.verdict;
  findings = map finding_told c.found;
}

-- what is told of rules that are numbered from a number on
abbrev pub rules_told : Bool → ℕ → List Checked → List ToldRule
rules_told labels i [] = []
rules_told labels i (c ∷ checked) = rule_told labels i c ∷ rules_told labels (suc i) checked

abbrev pub file_told : File → Content → FileReport
file_told file (Rules rules) = record { name = file.name; source = file.bytes; refusal = None }
file_told file (Refused kind span) = record { name = file.name; source = file.bytes; refusal = Some (record { kind = kind; span = span }) }

abbrev pub files_told : List File → List Content → List FileReport
files_told (file ∷ files) (content ∷ contents) = file_told file content ∷ files_told files contents
files_told _ _ = []

-- The report on files, with the verdicts on labels or without: what stands in each file, and for the rules of those that aren't refused, by their least environment, the verdicts
-- and the findings
pub record IsReportOn (files : List File) (labels : Bool) (report : Report) : Type 0 where
  pub contents : List Content
  pub are_contents : AreContents files contents
  pub env : Environment
  pub least : IsLeast (universe_of (accepted contents)) (accepted contents) env
  pub checked : List Checked
  pub are_checked : AreChecked files labels (accepted contents) env checked
  pub labels_are : report.labels ≡ labels
  pub files_are : report.files ≡ files_told files contents
  pub rules_are : map rule_in report.rules ≡ rules_told labels 0 checked
  pub universe_is : report.universe ≡ labels_of (universe_of (accepted contents))

-- two reports tell the same
pub record TellTheSame (a b : Report) : Type 0 where
  pub labels_same : a.labels ≡ b.labels
  pub files_same : a.files ≡ b.files
  pub rules_same : map rule_in a.rules ≡ map rule_in b.rules
  pub universe_same : a.universe ≡ b.universe
