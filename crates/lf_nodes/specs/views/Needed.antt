-- Which parts of an expression are looked at where something is told of the samples that it gives.
use Rattle.std.specs.Prelude.{Option, Some, None}
use Rattle.lf_ast.specs.Functions.{Signature, aggregation, function_named}
use Rattle.lf_ast.specs.Tree.{Tree, Call, Aggregate}
use Rattle.lf_ast.specs.declared.walk.choosing.Parts.{Parts}
use Rattle.lf_ast.specs.declared.walk.choosing.Parts.TheVariants.{All, Only, Nothing}
use Rattle.lf_semantics.specs.Parts.{operand_place}

-- the argument that is the operand, if there is one
abbrev pub operand_part : Option Signature → Parts
operand_part None = Nothing
operand_part (Some s) = Only (operand_place s)

-- the parts that the samples of an expression are made of: of a call only the operand
abbrev pub parts_needed : Tree → Parts
parts_needed (Call name args span) = operand_part (function_named name)
parts_needed (Aggregate op grouping args span) = operand_part (Some (aggregation op))
parts_needed _ = All
