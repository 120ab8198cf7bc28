-- Totals, as the code adds them up rule by rule.
use Rattle.std.specs.Prelude.{◌≡◌, ◌+◌, Bool, List, cond, count_by}
use Rattle.lf_ast.specs.declared.verdict.Verdict.{Verdict}
use Rattle.lf_report.specs.Counts.{empty_count, findings_of, is_empty, is_guaranteed, is_impossible, is_note, is_possible, is_problem, is_unresolved, verdicts_of}
use Rattle.lf_report.specs.Numbers.{labels_of}
use Rattle.lf_report.specs.declared.counting.Totals.{Totals}
use Rattle.lf_report.specs.declared.counting.VerdictKind.{VerdictKind}
use Rattle.lf_report.specs.declared.counting.VerdictKind.TheVariants.{Guaranteed, Impossible, Possible, Unresolved}
use Rattle.lf_report.specs.declared.report.RuleReport.{RuleReport}

-- these are the totals of rules
pub record AreTotals (rules : List RuleReport) (totals : Totals) : Type 0 where
  pub problems_are : totals.problems ≡ count_by is_problem (findings_of rules)
  pub notes_are : totals.notes ≡ count_by is_note (findings_of rules)
  pub guaranteed_are : totals.guaranteed ≡ count_by is_guaranteed (verdicts_of rules)
  pub impossible_are : totals.impossible ≡ count_by is_impossible (verdicts_of rules)
  pub possible_are : totals.possible ≡ count_by is_possible (verdicts_of rules)
  pub unresolved_are : totals.unresolved ≡ count_by is_unresolved (verdicts_of rules)
  pub empty_are : totals.empty ≡ empty_count rules

-- these are totals with those of one more rule
pub record IsWith (before : Totals) (rule : RuleReport) (totals : Totals) : Type 0 where
  pub problems_are : totals.problems ≡ before.problems + count_by is_problem rule.findings
  pub notes_are : totals.notes ≡ before.notes + count_by is_note rule.findings
  pub guaranteed_are : totals.guaranteed ≡ before.guaranteed + count_by is_guaranteed (labels_of rule.verdicts)
  pub impossible_are : totals.impossible ≡ before.impossible + count_by is_impossible (labels_of rule.verdicts)
  pub possible_are : totals.possible ≡ before.possible + count_by is_possible (labels_of rule.verdicts)
  pub unresolved_are : totals.unresolved ≡ before.unresolved + count_by is_unresolved (labels_of rule.verdicts)
  pub empty_are : totals.empty ≡ before.empty + cond (is_empty rule.verdicts) 1 0

-- a verdict is of a kind
abbrev pub is_of : VerdictKind → Verdict → Bool
is_of Guaranteed = is_guaranteed
is_of Impossible = is_impossible
is_of Possible = is_possible
is_of Unresolved = is_unresolved
