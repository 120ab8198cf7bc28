-- The numbers of files and rules in a report.
use Rattle.std.specs.Prelude.{◌≡◌, ◌<◌, ℕ, ◌+◌, ◌==◌, List, [], ◌∷◌, length, Option, None, Some, slice_get}
use Rattle.std.specs.List.{filter}
use Rattle.lf_ast.specs.declared.verdict.RuleVerdicts.{RuleVerdicts}
use Rattle.lf_ast.specs.declared.verdict.RuleVerdicts.TheVariants.{Empty, Labels}
use Rattle.lf_ast.specs.declared.verdict.Verdict.{Verdict}
use Rattle.lf_ast.specs.declared.verdict.Verdict.TheVariants.{Unresolved}
use Rattle.lf_base.specs.declared.place.Span.{Span}
use Rattle.lf_report.specs.declared.report.Report.{Report}
use Rattle.lf_report.specs.declared.report.RuleReport.{RuleReport}

-- the elements of a list, each with its number, the first of which is n
abbrev pub numbered : {X : Type 0} → ℕ → List X → List (ℕ × X)
numbered n [] = []
numbered n (x ∷ xs) = (n, x) ∷ numbered (n + 1) xs

-- the rules of the file with this number, in their order
abbrev pub rules_of : Report → ℕ → List RuleReport
rules_of report file = filter (λ rule. rule.file == file) report.rules

-- the verdicts on labels; of an empty rule there are none
abbrev pub labels_in : RuleVerdicts → List Verdict
labels_in Empty = []
labels_in (Labels verdicts) = verdicts

-- the verdicts on the labels of a rule, where they are told
abbrev pub labels_of : Option RuleVerdicts → List Verdict
labels_of None = []
labels_of (Some verdicts) = labels_in verdicts

-- each rule stands in a file of the report
abbrev pub StandInFiles : Report → Type 0
StandInFiles report = (k : ℕ) (rule : RuleReport) → slice_get report.rules k ≡ Some rule → rule.file < length report.files

-- what stands in the way of an answer on this label, if anything, stands in a rule whose number is below n
abbrev pub NamesRuleBelow : ℕ → Verdict → Type 0
NamesRuleBelow n verdict = (construct number : ℕ) (span : Span) → verdict ≡ Unresolved construct number span → number < n

abbrev pub NameRulesBelow : ℕ → List Verdict → Type 0
NameRulesBelow n verdicts = (l : ℕ) (verdict : Verdict) → slice_get verdicts l ≡ Some verdict → NamesRuleBelow n verdict

-- what stands in the way of an answer stands in a rule of the report
abbrev pub NameRules : Report → Type 0
NameRules report = (k : ℕ) (rule : RuleReport) → slice_get report.rules k ≡ Some rule → NameRulesBelow (length report.rules) (labels_of rule.verdicts)
