-- What a run did to the outside, by its status.
use Rattle.std.specs.Prelude.{◌≡◌, ◌⊎◌, ℕ, ◌+◌, ◌<◌, ◌≤◌, nat_lt, List, ◌++◌, length, take, Option, Some, None, if◌then◌else◌}
use Rattle.lf_ast.specs.Labels.{Bytes}
use Rattle.lf_checks.specs.Files.{File}
use Rattle.lf_judge.specs.Judged.{IsReportOn}
use Rattle.lf_judge.specs.Limits.{EndsIn, AreWithinLimits}
use Rattle.lf_judge.specs.declared.judge_end.JudgeEnd.TheVariants as judge_end
use Rattle.lf_report.specs.Counts.{problem_count, refused_count}
use Rattle.lf_report.specs.declared.report.Report.{Report}
use Rattle.lf_words.specs.Grammar.{Asks}
use Rattle.lf_words.specs.declared.options.Options.{Options}
use Rattle.lf_lint.specs.declared.status.Status.{Status}
use Rattle.lf_lint.specs.declared.status.Status.TheVariants.{Clean, Problems, Words, Refused, Read, Write, Memory, Limit}
use Rattle.lf_lint.specs.Asked.{AreFiles, names_of, output_of, tells_labels, written}
use Rattle.lf_lint.specs.Read.{AreShort, AreReadBefore, IsTooLong, most_files}

-- these bytes were added to those taken, where the object tells them
abbrev pub Wrote : Option Bytes → Option Bytes → Bytes → Type 0
Wrote None now bytes = Unit {0}
Wrote (Some before) now bytes = now ≡ Some (before ++ bytes)

-- with these bytes under the names of files, the words ask for this report, written as these bytes
pub record IsOutcome (words : List Bytes) (stand : Bytes → Bytes) (report : Report) (bytes : Bytes) : Type 0 where
  pub options : Options
  pub asks : Asks words options
  pub files : List File
  pub are_files : AreFiles options (λ name. Some (stand name)) files
  pub is_report : IsReportOn files (tells_labels options) report
  pub is_written : bytes ≡ written (output_of options) report

-- the words ask for these options, the files are theirs and pass no limit, and this is the report on them
pub record Judged (words : List Bytes) (held : Bytes → Option Bytes) (options : Options) (files : List File) (report : Report) : Type 0 where
  pub asks : Asks words options
  pub few : length (names_of options) ≤ most_files
  pub are_files : AreFiles options held files
  pub are_short : AreShort files
  pub fit : AreWithinLimits (tells_labels options) files
  pub is_report : IsReportOn files (tells_labels options) report

-- how a report ends a run once it is written: with a refusal, with a problem, or with neither. Notes don't matter
abbrev pub end_of : Report → Status
end_of report = if nat_lt 0 (refused_count report) then Refused else if nat_lt 0 (problem_count report) then Problems else Clean

-- the whole report was written, and it ends the run so
abbrev pub WroteAll : List Bytes → (Bytes → Option Bytes) → Option Bytes → Option Bytes → Status → Type 0
WroteAll words held before now status =
    (options : Options) × (files : List File) × (report : Report) × Judged words held options files report × (end_of report ≡ status)
    × Wrote before now (written (output_of options) report)

-- a front of the report was written, and not the whole
abbrev pub WrotePart : List Bytes → (Bytes → Option Bytes) → Option Bytes → Option Bytes → Type 0
WrotePart words held before now =
    (options : Options) × (files : List File) × (report : Report) × Judged words held options files report
    × (k : ℕ) × (k < length (written (output_of options) report)) × Wrote before now (take k (written (output_of options) report))

-- the words ask for a file with this number, which could not be opened or read to its end; those before it pass no limit
abbrev pub IsUnreadFile : List Bytes → (Bytes → Option Bytes) → ℕ → Type 0
IsUnreadFile words held file =
    (options : Options) × Asks words options × (length (names_of options) ≤ most_files) × AreReadBefore held (names_of options) file

-- more files are named than may be, and none was opened
pub record HasTooManyFiles (names : List Bytes) (opened quantity count : ℕ) : Type 0 where
  pub is_files : quantity ≡ 1
  pub is_count : count ≡ length names
  pub many : most_files < count
  pub is_opened : opened ≡ 0

-- a file passes a limit on bytes, and was the last that was opened
pub record HasTooManyBytes (held : Bytes → Option Bytes) (left : Option Bytes) (names : List Bytes) (opened quantity count : ℕ) : Type 0 where
  pub few : length names ≤ most_files
  pub file : ℕ
  pub is_too_long : IsTooLong held left names file quantity count
  pub is_opened : opened ≡ file + 1

-- all files were read and pass no limit, and their rules pass this one
pub record HasTooManyRules (held : Bytes → Option Bytes) (options : Options) (opened quantity count : ℕ) : Type 0 where
  pub few : length (names_of options) ≤ most_files
  pub files : List File
  pub are_files : AreFiles options held files
  pub are_short : AreShort files
  pub ends : EndsIn (tells_labels options) files (judge_end.Limit quantity count)
  pub is_opened : opened ≡ length (names_of options)

-- Which limit the files and rules that these options ask for pass, with which count, once so many files were opened. 1 is the files named, 2 the bytes of a file, 3 those of all
-- files; the others are of the rules of all files that are accepted
abbrev pub PassesLimit : (Bytes → Option Bytes) → Option Bytes → Options → ℕ → ℕ → ℕ → Type 0
PassesLimit held left options opened quantity count =
    HasTooManyFiles (names_of options) opened quantity count
    ⊎ (HasTooManyBytes held left (names_of options) opened quantity count ⊎ HasTooManyRules held options opened quantity count)

-- the same of what the words ask for
abbrev pub WordsPassLimit : List Bytes → (Bytes → Option Bytes) → Option Bytes → ℕ → ℕ → ℕ → Type 0
WordsPassLimit words held left opened quantity count =
    (options : Options) × Asks words options × PassesLimit held left options opened quantity count

-- the ends after which nothing was written
abbrev pub IsSilent : Status → Type 0
IsSilent Words = Unit {0}
IsSilent (Read file) = Unit {0}
IsSilent Memory = Unit {0}
IsSilent (Limit quantity found) = Unit {0}
IsSilent Clean = ⊥
IsSilent Problems = ⊥
IsSilent Refused = ⊥
IsSilent Write = ⊥

-- the ends after which the whole report was written
abbrev pub IsOfReport : Status → Type 0
IsOfReport Clean = Unit {0}
IsOfReport Problems = Unit {0}
IsOfReport Refused = Unit {0}
IsOfReport Words = ⊥
IsOfReport (Read file) = ⊥
IsOfReport Write = ⊥
IsOfReport Memory = ⊥
IsOfReport (Limit quantity found) = ⊥
