-- What is told of the parts of an expression: how contracts see the code. It defines nothing.
use Rattle.std.specs.Prelude.{ℕ, Bool, List, map}
use Rattle.lf_ast.specs.Tree.{Tree}
use Rattle.lf_semantics.specs.Listing.{Listing}
use Rattle.lf_semantics.specs.Parts.{is_scalar_part}
use Rattle.lf_semantics.specs.RowTable.{Environment, row_of}
use Rattle.lf_candidates.specs.views.Packed.{PackedRow, packed}
use Rattle.lf_built.specs.views.Places.{size}

-- the row of each part, packed, how many parts there are in it, and whether it is a scalar, and holds a fork
pub record PartRows : Type 0 where
  pub rows : List PackedRow
  pub sizes : List ℕ
  pub scalars : List Bool
  pub forks : List Bool

-- the row of an expression, packed
abbrev pub packed_row : Listing → Environment → Tree → PackedRow
packed_row u env e = packed u (row_of u env e)

-- those of some expressions
abbrev pub part_rows : Listing → Environment → (Tree → Bool) → List Tree → PartRows
part_rows u env holds_fork all = record { rows = map (packed_row u env) all; sizes = map size all; scalars = map is_scalar_part all; forks = map holds_fork all }
