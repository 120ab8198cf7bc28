-- What options ask for: how the report is written, whether it tells the verdicts on labels, how many workers make it, and of which files it is.
use Rattle.std.specs.Prelude.{◌≡◌, ℕ, Bool, true, List, [], ◌∷◌, codes, Option, if◌then◌else◌}
use Rattle.std.specs.List.{AllZip}
use Rattle.lf_ast.specs.Labels.{Bytes}
use Rattle.lf_checks.specs.Files.{File}
use Rattle.lf_gen.specs.Generated.{generated}
use Rattle.lf_gen.specs.Lines.{last_lines}
use Rattle.lf_report.specs.Json.{report_json}
use Rattle.lf_report.specs.Text.{report_text}
use Rattle.lf_report.specs.declared.report.Report.{Report}
use Rattle.lf_words.specs.declared.options.Options.{Options}
use Rattle.lf_words.specs.declared.options.Options.TheVariants.{Lint, Gen}
use Rattle.lf_lint.specs.declared.output.Output.{Output}
use Rattle.lf_lint.specs.declared.output.Output.TheVariants.{Text, Json, Totals}
use Rattle.lf_lint.specs.Read.{IsReadFile}

-- a report is written as text or as JSON, and of the one on the generated file only the totals are
abbrev pub output_of : Options → Output
output_of (Lint workers json labels files) = if json then Json else Text
output_of (Gen n) = Totals

-- the bytes of a report that is written so. The totals are the last two lines of its text
abbrev pub written : Output → Report → Bytes
written Text report = report_text report
written Json report = report_json report
written Totals report = last_lines 2 (report_text report)

-- the verdicts on labels are told where `--labels` asks for them, and of the generated file always
abbrev pub tells_labels : Options → Bool
tells_labels (Lint workers json labels files) = labels
tells_labels (Gen n) = true

-- so many workers make it: as many as are given, and four where the file is generated
abbrev pub workers_of : Options → ℕ
workers_of (Lint workers json labels files) = workers
workers_of (Gen n) = 4

-- the names of the files that are opened, in their order. The generated file is opened nowhere
abbrev pub names_of : Options → List Bytes
names_of (Lint workers json labels files) = files
names_of (Gen n) = []

-- the report is on these files: those named, with the bytes that stand under their names, or the generated one
abbrev pub AreFiles : Options → (Bytes → Option Bytes) → List File → Type 0
AreFiles (Lint workers json labels names) held files = AllZip (IsReadFile held) names files
AreFiles (Gen n) held files = files ≡ record { name = codes "gen.yml"; bytes = generated n } ∷ []
