-- The findings of a rule: what the checks find of it, and their list.
use Rattle.std.specs.Prelude.{◌≡◌, ℕ, List, Some, slice_get}
use Rattle.std.specs.List.{Contains}
use Rattle.lf_laws.specs.Ascending.{IsAscending}
use Rattle.lf_ast.specs.Rules.{RuleTree}
use Rattle.lf_semantics.specs.Environments.{rule_row}
use Rattle.lf_semantics.specs.Listing.{Listing, universe_of}
use Rattle.lf_semantics.specs.RowTable.{Environment}
use Rattle.lf_checks.specs.AlertComparison as alert_comparison
use Rattle.lf_checks.specs.AlertTemplate as alert_template
use Rattle.lf_checks.specs.ExprEmpty as expr_empty
use Rattle.lf_checks.specs.ExprType as expr_type
use Rattle.lf_checks.specs.Files.{File}
use Rattle.lf_checks.specs.Finding.{Check, AlertComparison, AlertTemplate, RuleDuplicate, RuleDependency, PromqlRegexp, MatchLabel, ExprEmpty, ExprType, RuleLabel, Finding, Severity, finding_cmp}
use Rattle.lf_checks.specs.MatchLabel as match_label
use Rattle.lf_checks.specs.PromqlRegexp as promql_regexp
use Rattle.lf_checks.specs.RuleDependency as rule_dependency
use Rattle.lf_checks.specs.RuleDuplicate as rule_duplicate
use Rattle.lf_checks.specs.RuleLabel as rule_label

-- the severity of what a check finds
abbrev pub severity_of : Check → Severity
severity_of AlertComparison = alert_comparison.severity
severity_of AlertTemplate = alert_template.severity
severity_of RuleDuplicate = rule_duplicate.severity
severity_of RuleDependency = rule_dependency.severity
severity_of PromqlRegexp = promql_regexp.severity
severity_of MatchLabel = match_label.severity
severity_of ExprEmpty = expr_empty.severity
severity_of ExprType = expr_type.severity
severity_of RuleLabel = rule_label.severity

-- The files are all that are linted, refused ones too, so that the number of a rule's file is its place among them. The rules are those of the files that aren't refused, file by
-- file and group by group. The universe is that of these rules, or of more of them. The row of a rule is that in the environment, which is meant to be the least one of the rules.
module _ (files : List File) (u : Listing) (rules : List RuleTree) (env : Environment) where
  -- the check finds this of rule i, which is r
  abbrev pub FindsIn : Check → ℕ → RuleTree → Finding → Type 0
  FindsIn AlertComparison i r f = alert_comparison.IsFound r f
  FindsIn AlertTemplate i r f = alert_template.IsFound u (rule_row u env r) r f
  FindsIn RuleDuplicate i r f = rule_duplicate.IsFound files rules i r f
  FindsIn RuleDependency i r f = rule_dependency.IsFound rules r f
  FindsIn PromqlRegexp i r f = promql_regexp.IsFound r f
  FindsIn MatchLabel i r f = match_label.IsFound u env r f
  FindsIn ExprEmpty i r f = expr_empty.IsFound (rule_row u env r) r f
  FindsIn ExprType i r f = expr_type.IsFound r f
  FindsIn RuleLabel i r f = rule_label.IsFound u (rule_row u env r) r f

  -- a finding of rule i: some check finds it
  abbrev pub IsFindingIn : ℕ → Finding → Type 0
  IsFindingIn i f = (r : RuleTree) × (slice_get rules i ≡ Some r) × (check : Check) × FindsIn check i r f

  -- the list of the findings of rule i: each finding and nothing else, and each less than those behind it, so none stands twice
  pub record AreFindingsIn (i : ℕ) (found : List Finding) : Type 0 where
    pub each : (f : Finding) → Contains found f → IsFindingIn i f
    pub all : (f : Finding) → IsFindingIn i f → Contains found f
    pub ascending : IsAscending finding_cmp found

-- the same in the universe of exactly these rules
abbrev pub AreFindings : List File → List RuleTree → Environment → ℕ → List Finding → Type 0
AreFindings files rules env i found = AreFindingsIn files (universe_of rules) rules env i found
