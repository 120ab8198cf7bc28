-- What the machine answers on tokens within the bounds. It is a way of reading, and defines nothing.
use Rattle.std.specs.Prelude.{ℕ, List, map, Result, Ok, Err}
use Rattle.lf_base.specs.declared.kind.Kind.TheVariants.{Syntax}
use Rattle.lf_base.specs.Faults.{fault}
use Rattle.lf_lex.specs.declared.token.Token.{Token}
use Rattle.lf_base.specs.declared.fault.Fault.{Fault}
use Rattle.lf_parse.specs.Tokens.{marked}
use Rattle.lf_ast.specs.Tree.{Tree}
use Rattle.lf_parse.specs.reading.Machine.{reading}
use Rattle.lf_parse.specs.Answer.{place}

abbrev pub placed : List Token → ℕ → Result Tree ℕ → Result Tree Fault
placed ts end (Ok e) = Ok e
placed ts end (Err k) = Err (fault Syntax (place ts end k))

abbrev pub answer : List Token → ℕ → Result Tree Fault
answer ts end = placed ts end (reading (map marked ts))
