use Rattle.std.proofs.Common.{Bool, sym, subst}
use Rattle.std.specs.Prelude.{IfOk}
use Rattle.lf_witness.specs.Strict.{StrictSign, StrictlyEvaluates}
use Rattle.lf_witness.specs.StrictRuns.{InOrder}
use Rattle.lf_strict.proofs.operand.behind_sign.Goals as goal

pub returns-then-minus : goal.returns-then-minus
returns-then-minus c = λ W e given.
    let P : Bool → Type 0 = λ minus. IfOk c.operand_apart.result (InOrder (StrictSign minus (StrictlyEvaluates W e))) in
    subst P (sym c.if-minus.true) (c.operand_apart.ensures W e given)
