-- The cases of the checks as the code numbers them: checks from 1 in the order of their table, and the cases of one check from 0.
use Rattle.std.specs.Prelude.{◌≡◌, ℕ, zero, suc, List, [], ◌∷◌, Some, None, slice_index_or}
use Rattle.lf_base.specs.declared.place.Span.{Span}
use Rattle.lf_ast.specs.Labels.{Bytes}
use Rattle.lf_ast.specs.declared.verdict.Finding.{Finding as Row}
use Rattle.lf_checks.specs.AlertComparison as alert_comparison
use Rattle.lf_checks.specs.AlertTemplate as alert_template
use Rattle.lf_checks.specs.ExprEmpty as expr_empty
use Rattle.lf_checks.specs.ExprType as expr_type
use Rattle.lf_checks.specs.Finding.{Check, AlertComparison, AlertTemplate, RuleDuplicate, RuleDependency, PromqlRegexp, MatchLabel, ExprEmpty, ExprType, RuleLabel, rank}
use Rattle.lf_checks.specs.MatchLabel as match_label
use Rattle.lf_checks.specs.PromqlRegexp as promql_regexp
use Rattle.lf_checks.specs.RuleDependency as rule_dependency
use Rattle.lf_checks.specs.RuleDuplicate as rule_duplicate
use Rattle.lf_checks.specs.RuleLabel as rule_label
use Rattle.lf_checks.specs.declared.case.Case.{Case}

-- the checks by their numbers, of which none is 0
abbrev pub checks : List Check
checks = RuleLabel ∷ AlertComparison ∷ AlertTemplate ∷ RuleDuplicate ∷ RuleDependency ∷ PromqlRegexp ∷ MatchLabel ∷ ExprEmpty ∷ ExprType ∷ RuleLabel ∷ []

abbrev pub check_at : ℕ → Check
check_at number = slice_index_or checks number RuleLabel

-- what a case of a check says of a label or name, or of the place of another rule
abbrev pub said : Check → ℕ → Bytes → Bytes → Bytes
said AlertComparison case label place = alert_comparison.says
said AlertTemplate zero label place = alert_template.says_never label
said AlertTemplate (suc k) label place = alert_template.says_unreadable
said RuleDuplicate case label place = rule_duplicate.says_where place
said RuleDependency zero label place = rule_dependency.says_unrecorded label
said RuleDependency (suc k) label place = rule_dependency.says_cyclic label
said PromqlRegexp zero label place = promql_regexp.says_plain
said PromqlRegexp (suc k) label place = promql_regexp.says_anchored
said MatchLabel case label place = match_label.says_never label
said ExprEmpty case label place = expr_empty.says
said ExprType case label place = expr_type.says
said RuleLabel zero label place = rule_label.says_replaced label
said RuleLabel (suc k) label place = rule_label.says_removed label

-- the check of a case, and the number of the case among those of the check
abbrev pub check_of : Case → Check
check_of Case.ComparesNothing = AlertComparison
check_of Case.NeverOnAlert = AlertTemplate
check_of Case.UnreadableTemplate = AlertTemplate
check_of Case.SameRule = RuleDuplicate
check_of Case.Unrecorded = RuleDependency
check_of Case.Cyclic = RuleDependency
check_of Case.PlainPattern = PromqlRegexp
check_of Case.AnchoredPattern = PromqlRegexp
check_of Case.NeverOnOperand = MatchLabel
check_of Case.NoSample = ExprEmpty
check_of Case.WrongType = ExprType
check_of Case.ReplacesLabel = RuleLabel
check_of Case.RemovesNothing = RuleLabel

abbrev pub number_of : Case → ℕ
number_of Case.UnreadableTemplate = 1
number_of Case.Cyclic = 1
number_of Case.AnchoredPattern = 1
number_of Case.RemovesNothing = 1
number_of _ = 0

-- what a case says
abbrev pub says_of : Case → Bytes → Bytes → Bytes
says_of case label place = said (check_of case) (number_of case) label place

-- the finding of a case at a span, about a label or name
abbrev pub row_of : Case → Span → Bytes → Row
row_of case span label = record { check = rank (check_of case); case = number_of case; span = span; label = label; other = None }

-- the finding that the rule with a number is the same
abbrev pub same_row : Span → ℕ → Row
same_row span other = record { check = rank RuleDuplicate; case = number_of Case.SameRule; span = span; label = []; other = Some other }

-- whether a case is about this label or name: where it is about none, this is the empty text. No label makes a finding that names a rule
abbrev pub IsAbout : Case → Bytes → Type 0
IsAbout Case.ComparesNothing label = label ≡ []
IsAbout Case.NeverOnAlert label = Unit {0}
IsAbout Case.UnreadableTemplate label = label ≡ []
IsAbout Case.SameRule label = ⊥
IsAbout Case.Unrecorded label = Unit {0}
IsAbout Case.Cyclic label = Unit {0}
IsAbout Case.PlainPattern label = label ≡ []
IsAbout Case.AnchoredPattern label = label ≡ []
IsAbout Case.NeverOnOperand label = Unit {0}
IsAbout Case.NoSample label = label ≡ []
IsAbout Case.WrongType label = label ≡ []
IsAbout Case.ReplacesLabel label = Unit {0}
IsAbout Case.RemovesNothing label = Unit {0}
