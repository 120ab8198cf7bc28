-- Reading a scalar of any style. A way of reading, which defines nothing: it is proved equal to what specs/Scalars defines.
use Rattle.std.specs.Prelude.{ℕ, List, [], ◌∷◌, Result, Err}
use Rattle.lf_base.specs.declared.kind.Kind.TheVariants.{OpenQuote}
use Rattle.lf_scalar.specs.declared.scalar.Style.{Style}
use Rattle.lf_scalar.specs.declared.scalar.Style.TheVariants as style
use Rattle.lf_base.specs.declared.fault.Fault.{Fault}
use Rattle.lf_base.specs.Faults.{span, fault}
use Rattle.lf_scalar.specs.Cells.{Cell, Value}
use Rattle.lf_scalar.specs.Quoted.{Quotes, Single, Double}
use Rattle.lf_scalar.specs.reading.Quoted.{quoted_of}
use Rattle.lf_scalar.specs.reading.Plain.{plain_of}
use Rattle.lf_scalar.specs.Block.{joined}
use Rattle.lf_scalar.specs.reading.Block.{block_of, folded_of}

abbrev pub quoted_at : Quotes → ℕ → List Cell → Result Value Fault
quoted_at kind end [] = Err (fault OpenQuote (span end end))
quoted_at kind end (opening ∷ src) = quoted_of kind end opening src

abbrev pub reading : Style → ℕ → ℕ → List Cell → Result Value Fault
reading style.Plain above end src = plain_of above end src
reading style.Single above end src = quoted_at Single end src
reading style.Double above end src = quoted_at Double end src
reading style.Literal above end src = block_of joined above end src
reading style.Folded above end src = block_of folded_of above end src
