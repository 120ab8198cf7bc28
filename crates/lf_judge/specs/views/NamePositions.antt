-- The positions of the names of rules, as the code goes through the files.
use Rattle.std.specs.Prelude.{◌≡◌, ℕ, List, Some, slice_get}
use Rattle.std.specs.List.{AllZip}
use Rattle.lf_ast.specs.Rules.{RuleTree}
use Rattle.lf_checks.specs.Files.{File}
use Rattle.lf_report.specs.declared.line_index.Position.{Position}
use Rattle.lf_report.specs.views.LineIndex.{IsPosition, IsPositionOf}

-- the position is one of the file with this number, if there is such a file
abbrev pub IsPositionIn : List File → ℕ → Position → Type 0
IsPositionIn files k position = (file : File) → slice_get files k ≡ Some file → IsPosition file.bytes position

-- the position is that of the name of the rule, in its file
abbrev pub IsNamePosition : List File → RuleTree → Position → Type 0
IsNamePosition files r position = (file : File) → slice_get files r.file ≡ Some file → IsPositionOf file.bytes r.name_span.start position

-- the positions are those of the names of rules, each at the number of its rule
abbrev pub AreNamePositions : List File → List RuleTree → List Position → Type 0
AreNamePositions files rules positions = AllZip (IsNamePosition files) rules positions
