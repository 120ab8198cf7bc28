-- The numbers by which findings are answered: that of the check, that of its case, and that of the rule that is named.
-- Checks are numbered from 1, in the order of their table. The cases of a check are numbered from 0, in the order in which its definition tells them.
use Rattle.std.specs.Prelude.{◌≡◌, ℕ, zero, suc, List, [], Option, Some, None, slice_get}
use Rattle.lf_ast.specs.Labels.{Bytes}
use Rattle.lf_ast.specs.Rules.{RuleTree}
use Rattle.lf_ast.specs.declared.verdict.Finding.{Finding as Numbered}
use Rattle.lf_checks.specs.AlertComparison as alert_comparison
use Rattle.lf_checks.specs.AlertTemplate as alert_template
use Rattle.lf_checks.specs.ExprEmpty as expr_empty
use Rattle.lf_checks.specs.ExprType as expr_type
use Rattle.lf_checks.specs.Finding.{Check, AlertComparison, AlertTemplate, RuleDuplicate, RuleDependency, PromqlRegexp, MatchLabel, ExprEmpty, ExprType, RuleLabel, Finding, rank}
use Rattle.lf_checks.specs.MatchLabel as match_label
use Rattle.lf_checks.specs.PromqlRegexp as promql_regexp
use Rattle.lf_checks.specs.RuleDependency as rule_dependency
use Rattle.lf_checks.specs.RuleDuplicate as rule_duplicate
use Rattle.lf_checks.specs.RuleLabel as rule_label

-- the table of the cases: the case of the check with this number says this text of a label or name, which is the empty text where the case is about none. There are no cases but these
abbrev pub CaseSays : Check → ℕ → Bytes → Bytes → Type 0
CaseSays AlertComparison zero label text = (label ≡ []) × (text ≡ alert_comparison.says)
CaseSays AlertTemplate zero label text = text ≡ alert_template.says_never label
CaseSays AlertTemplate (suc zero) label text = (label ≡ []) × (text ≡ alert_template.says_unreadable)
CaseSays RuleDuplicate zero label text = (label ≡ []) × ((place : Bytes) × (text ≡ rule_duplicate.says_where place))
CaseSays RuleDependency zero label text = text ≡ rule_dependency.says_unrecorded label
CaseSays RuleDependency (suc zero) label text = text ≡ rule_dependency.says_cyclic label
CaseSays PromqlRegexp zero label text = (label ≡ []) × (text ≡ promql_regexp.says_plain)
CaseSays PromqlRegexp (suc zero) label text = (label ≡ []) × (text ≡ promql_regexp.says_anchored)
CaseSays MatchLabel zero label text = text ≡ match_label.says_never label
CaseSays ExprEmpty zero label text = (label ≡ []) × (text ≡ expr_empty.says)
CaseSays ExprType zero label text = (label ≡ []) × (text ≡ expr_type.says)
CaseSays RuleLabel zero label text = text ≡ rule_label.says_replaced label
CaseSays RuleLabel (suc zero) label text = text ≡ rule_label.says_removed label
CaseSays _ _ label text = ⊥

-- the rule that is named: by rule/duplicate the first one that is the same as rule i, and by each other check none
abbrev pub NamesOther : List RuleTree → ℕ → Check → Option ℕ → Type 0
NamesOther rules i RuleDuplicate other = (r s : RuleTree) × (j : ℕ) × (slice_get rules i ≡ Some r) × rule_duplicate.IsFirstAt rules i r j s × (other ≡ Some j)
NamesOther rules i _ other = other ≡ None

-- finding f of rule i is answered so: by the number of its check, at its span, by the number and the label of the case that says its text, and by the number of the rule that it names
pub record HasNumbers (rules : List RuleTree) (i : ℕ) (f : Finding) (n : Numbered) : Type 0 where
  pub check : n.check ≡ rank f.check
  pub span : n.span ≡ f.span
  pub case : CaseSays f.check n.case n.label f.text
  pub other : NamesOther rules i f.check n.other
