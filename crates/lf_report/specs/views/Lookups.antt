-- The look-ups of a report, as the code makes them.
use Rattle.std.specs.Prelude.{◌≡◌, ◌==◌, ℕ, List, length, map, Some, slice_get}
use Rattle.std.specs.List.{filter}
use Rattle.lf_ast.specs.Labels.{Bytes}
use Rattle.lf_report.specs.Shown.{shown}
use Rattle.lf_report.specs.declared.places.Lookup.{Lookup}
use Rattle.lf_report.specs.declared.places.Naming.{Naming}
use Rattle.lf_report.specs.declared.places.Naming.TheVariants.{Shown, Plain}
use Rattle.lf_report.specs.declared.report.FileReport.{FileReport}
use Rattle.lf_report.specs.declared.report.Report.{Report}
use Rattle.lf_report.specs.declared.report.RuleReport.{RuleReport}
use Rattle.lf_report.specs.views.LineIndex.{AreIndexed}

-- how a name is told
abbrev pub told_by : Naming → Bytes → Bytes
told_by Shown = shown
told_by Plain = λ name. name

-- the rules of the file with this number, among some of all rules
abbrev pub rules_among : List RuleReport → ℕ → List RuleReport
rules_among some file = filter (λ (rule : RuleReport). rule.file == file) some

-- at each file's number stand the numbers of its rules, among some of all rules
pub record AreGroups (files : List FileReport) (rules some : List RuleReport) (groups : List (List ℕ)) : Type 0 where
  pub each_file : length groups ≡ length files
  pub each_rule : (file : ℕ) (numbers : List ℕ) → slice_get groups file ≡ Some numbers → map (slice_get rules) numbers ≡ map Some (rules_among some file)

-- these are the look-ups of a report
pub record IsLookup (report : Report) (lookup : Lookup) : Type 0 where
  pub indexes_are : AreIndexed report.files lookup.indexes.items
  pub rules_are : AreGroups report.files report.rules report.rules lookup.rules.items
