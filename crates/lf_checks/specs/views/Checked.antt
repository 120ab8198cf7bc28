-- What a checker looks at, and what it finds of a rule by several checks together.
use Rattle.std.specs.Prelude.{◌⊎◌, List}
use Rattle.lf_ast.specs.Rules.{RuleTree}
use Rattle.lf_ast.specs.declared.rule.Rule.{Rule}
use Rattle.lf_semantics.specs.ClassRows.{Sets}
use Rattle.lf_semantics.specs.Listing.{Listing}
use Rattle.lf_semantics.specs.RowTable.{Environment}
use Rattle.lf_checks.specs.AlertComparison as alert_comparison
use Rattle.lf_checks.specs.AlertTemplate as alert_template
use Rattle.lf_checks.specs.ExprEmpty as expr_empty
use Rattle.lf_checks.specs.ExprType as expr_type
use Rattle.lf_checks.specs.Finding.{Finding}
use Rattle.lf_checks.specs.MatchLabel as match_label
use Rattle.lf_checks.specs.PromqlRegexp as promql_regexp
use Rattle.lf_checks.specs.RuleDependency as rule_dependency
use Rattle.lf_checks.specs.RuleLabel as rule_label

pub record CheckerView : Type 0 where
  pub universe : Listing
  pub env : Environment
  pub rules : List Rule

-- by the rule itself and its row
abbrev pub IsOfRule : Listing → Sets → RuleTree → Finding → Type 0
IsOfRule u row r f = (((alert_comparison.IsFound r f ⊎ alert_template.IsFound u row r f) ⊎ expr_empty.IsFound row r f) ⊎ expr_type.IsFound r f) ⊎ rule_label.IsFound u row r f

-- by the parts of its expression
abbrev pub IsOfParts : Listing → Environment → List RuleTree → RuleTree → Finding → Type 0
IsOfParts u env rules r f = (rule_dependency.IsFound rules r f ⊎ promql_regexp.IsFound r f) ⊎ match_label.IsFound u env r f
