-- What is kept of the parts of an expression until its own row is made: how contracts see the code. It defines nothing.
use Rattle.std.specs.Prelude.{List, map, Option, Some, None}
use Rattle.lf_ast.specs.Functions.{Signature}
use Rattle.lf_ast.specs.Tree.{Tree, Number, Trees, list}
use Rattle.lf_ast.specs.views.Walks.{chosen}
use Rattle.lf_nodes.specs.views.Needed.{operand_part}
use Rattle.lf_semantics.specs.ClassRows.{Sets, bottom}
use Rattle.lf_semantics.specs.Listing.{Listing}
use Rattle.lf_semantics.specs.Parts.{type_by_form}
use Rattle.lf_semantics.specs.RowTable.{Environment, bare_row, row_of}
use Rattle.lf_flow.specs.declared.typed_row.TypedRow.{TypedRow}

module _ (u : Listing) where
  -- a row that isn't made yet is that of the one sample without labels
  abbrev pub made_row : Option Sets → Sets
  made_row None = bare_row u
  made_row (Some row) = row

  -- the row of an operand, and the empty row where there is none
  abbrev pub operand_row : Option TypedRow → Sets
  operand_row None = bottom u
  operand_row (Some typed) = made_row typed.row

  module _ (env : Environment) where
    -- the row of a number isn't made
    abbrev pub kept_row : Tree → Option Sets
    kept_row (Number text span) = None
    kept_row e = Some (row_of u env e)

    -- what is told of an expression: its row, and the type that its form tells
    abbrev pub typed_row_of : Tree → TypedRow
    typed_row_of e = record { row = kept_row e; form = type_by_form e }

    -- what is told of the operand among the arguments of a call, if it has one
    abbrev pub typed_operand : Option Signature → Trees → List TypedRow
    typed_operand called args = map typed_row_of (chosen (operand_part called) (list args))
