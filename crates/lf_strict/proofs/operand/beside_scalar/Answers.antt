use Rattle.std.proofs.Common.{Bool, sym, subst}
use Rattle.std.specs.Prelude.{IfOk}
use Rattle.lf_witness.specs.Strict.{StrictBesideScalar, StrictlyEvaluates}
use Rattle.lf_witness.specs.StrictRuns.{InOrder}
use Rattle.lf_strict.proofs.operand.beside_scalar.Goals as goal

pub returns-else-filter : goal.returns-else-filter
returns-else-filter c = λ W e given.
    let P : Bool → Type 0 = λ filter. IfOk c.operand_apart.result (InOrder (StrictBesideScalar filter (StrictlyEvaluates W e))) in
    subst P (sym c.if-filter.false) (c.operand_apart.ensures W e given)
