-- What the code tells of rules, one after another.
use Rattle.std.specs.Prelude.{◌≡◌, ℕ, Bool, true, List, map, Some, slice_get}
use Rattle.lf_ast.specs.Rules.{RuleTree}
use Rattle.lf_checks.specs.Files.{File}
use Rattle.lf_checks.specs.Finding.{Finding}
use Rattle.lf_checks.specs.Findings.{AreFindings}
use Rattle.lf_report.specs.declared.report.ReportedFinding.{ReportedFinding}
use Rattle.lf_report.specs.declared.report.Report.{Report}
use Rattle.lf_report.specs.declared.report.RuleReport.{RuleReport}
use Rattle.lf_semantics.specs.Listing.{Listing, universe_of}
use Rattle.lf_semantics.specs.RowTable.{Environment}
use Rattle.lf_trials.specs.Verdicts.{IsRuleVerdict, RuleVerdict}
use Rattle.lf_judge.specs.Founds.{Content}
use Rattle.lf_open.specs.OpenList.{IsFirstOpen}
use Rattle.lf_judge.specs.Judged.{AreChecked, Checked, files_told, finding_in, finding_told, has_unresolved, is_empty, labels_of, rule_in, rule_told, rules_told}

module _ (files : List File) (rules : List RuleTree) (env : Environment) where
  -- these are findings of the rule with a number
  abbrev pub TellsFindings : ℕ → List ReportedFinding → Type 0
  TellsFindings i told = (found : List Finding) × AreFindings files rules env i found × (map finding_in told ≡ map finding_told found)

  -- the rule with a number, with the verdict on it, what stands open where verdicts are told and leave a label unresolved, and its findings
  pub record IsCheckedAt (labels : Bool) (i : ℕ) (c : Checked) : Type 0 where
    pub rule : slice_get rules i ≡ Some c.rule
    pub verdict : IsRuleVerdict (universe_of rules) env rules i c.rule c.verdict
    pub first : labels ≡ true → has_unresolved c.verdict ≡ true → IsFirstOpen rules i c.first
    pub list : AreFindings files rules env i c.found

  -- this is told of the rule with a number
  abbrev pub TellsRule : Bool → ℕ → RuleReport → Type 0
  TellsRule labels i told = (c : Checked) × IsCheckedAt labels i c × (rule_in told ≡ rule_told labels i c)

  -- this is told of the rules
  abbrev pub TellsRules : Bool → List RuleReport → Type 0
  TellsRules labels told = (checked : List Checked) × AreChecked files labels rules env checked × (map rule_in told ≡ rules_told labels 0 checked)

-- the rule with a number is called empty so
abbrev pub TellsEmpty : List RuleTree → Environment → ℕ → RuleTree → Bool → Type 0
TellsEmpty rules env i r empty = (verdict : RuleVerdict) × IsRuleVerdict (universe_of rules) env rules i r verdict × (empty ≡ is_empty verdict)

-- a report is put together of these
pub record IsPutTogether (files : List File) (labels : Bool) (u : Listing) (contents : List Content) (rules : List RuleReport) (report : Report) : Type 0 where
  pub labels_are : report.labels ≡ labels
  pub files_are : report.files ≡ files_told files contents
  pub rules_are : report.rules ≡ rules
  pub universe_is : report.universe ≡ labels_of u
