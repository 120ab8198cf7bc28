-- The files that rules stand in, and how a finding names a place in one.
use Rattle.std.specs.Prelude.{◌≡◌, ℕ, List, ◌++◌, Some, codes, slice_get}
use Rattle.std.specs.Fmt.{decimal}
use Rattle.std.specs.List.{Contains}
use Rattle.lf_base.specs.Places.{column_at, line_at}
use Rattle.lf_ast.specs.Labels.{Bytes}
use Rattle.lf_ast.specs.Rules.{RuleTree}

-- a file: its name, as the command line has it, and its bytes
pub record File : Type 0 where
  pub name : Bytes
  pub bytes : Bytes

-- `FILE:LINE:COLUMN` of an offset of a file, with the name as it is
abbrev pub place_in : File → ℕ → Bytes
place_in file offset = file.name ++ codes ":" ++ decimal (line_at file.bytes offset) ++ codes ":" ++ decimal (column_at file.bytes offset)

-- the name of the rule stands at this place; the rule says the number of its file
abbrev pub IsNamedAt : List File → RuleTree → Bytes → Type 0
IsNamedAt files r place = (file : File) × (slice_get files r.file ≡ Some file) × (place ≡ place_in file r.name_span.start)

-- the file of each rule is among them
abbrev pub StandIn : List File → List RuleTree → Type 0
StandIn files rules = (r : RuleTree) → Contains rules r → (file : File) × (slice_get files r.file ≡ Some file)
