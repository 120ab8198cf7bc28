-- How the code goes over an expression to find its selectors: how contracts see the code. It defines nothing.
use Rattle.std.specs.Prelude.{Bool, false, cond}
use Rattle.lf_ast.specs.Functions.{function_named}
use Rattle.lf_ast.specs.Tree.{Tree, Call}
use Rattle.lf_ast.specs.Types.{is_scalar}
use Rattle.lf_ast.specs.declared.walk.choosing.Parts.{Parts}
use Rattle.lf_ast.specs.declared.walk.choosing.Parts.TheVariants.{All, Nothing}
use Rattle.lf_semantics.specs.Parts.{given_by}

-- a call that is a scalar
abbrev pub is_scalar_call : Tree → Bool
is_scalar_call (Call name args span) = is_scalar (given_by (function_named name))
is_scalar_call _ = false

-- the parts that are gone into: none of a scalar call
abbrev pub parts_read : Tree → Parts
parts_read e = cond (is_scalar_call e) Nothing All
