-- How the code makes a report and passes it on.
use Rattle.std.specs.Prelude.{◌≡◌, ◌⊎◌, ℕ, ◌+◌, ◌<◌, ◌≤◌, Bool, List, length, Option, if◌then◌else◌, nat_le}
use Rattle.lf_ast.specs.Labels.{Bytes}
use Rattle.lf_checks.specs.Files.{File}
use Rattle.lf_judge.specs.Judged.{IsReportOn}
use Rattle.lf_judge.specs.Limits.{EndsIn, AreWithinLimits}
use Rattle.lf_judge.specs.declared.judge_end.JudgeEnd.{JudgeEnd}
use Rattle.lf_judge.specs.declared.judge_end.JudgeEnd.TheVariants as judge_end
use Rattle.lf_report.specs.declared.report.Report.{Report}
use Rattle.lf_words.specs.declared.options.Options.{Options}
use Rattle.lf_lint.specs.declared.making.FinishedReport.{FinishedReport}
use Rattle.lf_lint.specs.declared.reading.ReadEnd.{ReadEnd}
use Rattle.lf_lint.specs.declared.reading.ReadEnd.TheVariants as read_end
use Rattle.lf_lint.specs.declared.status.Status.{Status}
use Rattle.lf_lint.specs.declared.status.Status.TheVariants as status
use Rattle.lf_lint.specs.declared.unreported.Unreported.{Unreported}
use Rattle.lf_lint.specs.declared.unreported.Unreported.TheVariants.{Read, Memory, Limit}
use Rattle.lf_lint.specs.Asked.{AreFiles, names_of, output_of, tells_labels, written}
use Rattle.lf_lint.specs.Ends.{HasTooManyBytes, HasTooManyFiles, PassesLimit, end_of}
use Rattle.lf_lint.specs.Read.{AreShort, AreReadBefore, most_bytes, most_bytes_in_all, most_files}

-- how a run ends without a report
abbrev pub status_of : Unreported → Status
status_of (Read file) = status.Read file
status_of Memory = status.Memory
status_of (Limit quantity found) = status.Limit quantity found

abbrev pub judged_by : JudgeEnd → Unreported
judged_by judge_end.Memory = Memory
judged_by (judge_end.Limit quantity found) = Limit quantity found

-- the file with this number, behind files of so many bytes, wasn't read whole
abbrev pub unread_by : ℕ → ℕ → ReadEnd → Unreported
unread_by file before read_end.Failed = Read file
unread_by file before read_end.TooLong = if nat_le (before + most_bytes) most_bytes_in_all then Limit 2 4194305 else Limit 3 16777217
unread_by file before read_end.Memory = Memory

-- why files of these names aren't read, once so many were opened, by the counts of faults before and after
abbrev pub IsWhyUnread : (Bytes → Option Bytes) → Option Bytes → List Bytes → ℕ → ℕ → ℕ → Unreported → Type 0
IsWhyUnread held left names faults later opened (Read file) = (faults < later) × (opened ≡ file + 1) × (length names ≤ most_files) × AreReadBefore held names file
IsWhyUnread held left names faults later opened Memory = (later ≡ faults) × (opened ≤ length names)
IsWhyUnread held left names faults later opened (Limit quantity count) =
    (later ≡ faults) × (HasTooManyFiles names opened quantity count ⊎ HasTooManyBytes held left names opened quantity count)

-- why there is no report on these files
abbrev pub IsWhyUnjudged : Bool → List File → Unreported → Type 0
IsWhyUnjudged labels files (Read file) = ⊥
IsWhyUnjudged labels files Memory = Unit {0}
IsWhyUnjudged labels files (Limit quantity count) = EndsIn labels files (judge_end.Limit quantity count)

-- why there is no report for these options
abbrev pub IsWhyUnreported : (Bytes → Option Bytes) → Option Bytes → Options → ℕ → ℕ → ℕ → Unreported → Type 0
IsWhyUnreported held left options faults later opened (Read file) = IsWhyUnread held left (names_of options) faults later opened (Read file)
IsWhyUnreported held left options faults later opened Memory = IsWhyUnread held left (names_of options) faults later opened Memory
IsWhyUnreported held left options faults later opened (Limit quantity count) =
    (later ≡ faults) × PassesLimit held left options opened quantity count

-- the files that these options ask for
pub record AreGathered (held : Bytes → Option Bytes) (options : Options) (files : List File) : Type 0 where
  pub few : length (names_of options) ≤ most_files
  pub are_files : AreFiles options held files
  pub are_short : AreShort files

-- a report on files was made, as it is written, and with how it ends a run
pub record IsMadeOf (options : Options) (files : List File) (made : FinishedReport) : Type 0 where
  pub report : Report
  pub fit : AreWithinLimits (tells_labels options) files
  pub is_report : IsReportOn files (tells_labels options) report
  pub text : made.text ≡ written (output_of options) report
  pub status : made.status ≡ end_of report

-- and on the files that options ask for
pub record IsMade (held : Bytes → Option Bytes) (options : Options) (made : FinishedReport) : Type 0 where
  pub files : List File
  pub gathered : AreGathered held options files
  pub is_made_of : IsMadeOf options files made
