-- How the lines of labels begin: as the code puts them together once for all rules.
use Rattle.std.specs.Prelude.{◌++◌, codes}
use Rattle.lf_ast.specs.Labels.{Bytes}
use Rattle.lf_report.specs.Shown.{shown}

-- `  LABEL: `, as a text shows the label
abbrev pub label_head : Bytes → Bytes
label_head name = codes "  " ++ shown name ++ codes ": "
