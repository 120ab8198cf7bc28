-- Which operators take their samples from the left side alone: how contracts see the code. It defines nothing.
use Rattle.std.specs.Prelude.{Bool, true, false}
use Rattle.lf_ast.specs.declared.expr.Op.{Op}
use Rattle.lf_ast.specs.declared.expr.Op.TheVariants.{Unless}

abbrev pub is_unless : Op → Bool
is_unless Unless = true
is_unless _ = false
