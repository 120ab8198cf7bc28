-- Places in the files of a report.
use Rattle.std.specs.Prelude.{ℕ, [], ◌++◌, codes, slice_get}
use Rattle.std.specs.Fmt.{decimal}
use Rattle.std.specs.Option.{option_map_or}
use Rattle.lf_ast.specs.Labels.{Bytes}
use Rattle.lf_base.specs.Places.{line_at, column_at}
use Rattle.lf_report.specs.declared.report.FileReport.{FileReport}
use Rattle.lf_report.specs.declared.report.Report.{Report}
use Rattle.lf_report.specs.declared.report.RuleReport.{RuleReport}

-- `FILE:LINE:COLUMN` of an offset of a file, whose name is told as `told` says. The place depends on nothing behind the offset, so that it is told of bytes that aren't UTF-8 too
abbrev pub place : (Bytes → Bytes) → FileReport → ℕ → Bytes
place told file offset = told file.name ++ codes ":" ++ decimal (line_at file.source offset) ++ codes ":" ++ decimal (column_at file.source offset)

-- the place of an offset of the file with this number
abbrev pub place_in : (Bytes → Bytes) → Report → ℕ → ℕ → Bytes
place_in told report number offset = option_map_or (λ file. place told file offset) (slice_get report.files number) []

-- the place of an offset in the rule with this number
abbrev pub place_in_rule : (Bytes → Bytes) → Report → ℕ → ℕ → Bytes
place_in_rule told report number offset = option_map_or (λ (rule : RuleReport). place_in told report rule.file offset) (slice_get report.rules number) []
