use Rattle.std.proofs.Common.{Bool, subst}
use Rattle.lf_ast.specs.Types.{is_scalar}
use Rattle.lf_witness.specs.Strict.{StrictBinary, StrictlyEvaluates}
use Rattle.lf_witness.specs.StrictRuns.{InOrder}
use Rattle.lf_strict.proofs.evaluated.binary.Goals as goal

pub returns-clause-answer : goal.returns-clause-answer
returns-clause-answer c = λ W d e left right.
    let P : Bool → Bool → Type 0 = λ x y. InOrder (StrictBinary c.args.op c.args.matching.now x y (StrictlyEvaluates W d) (StrictlyEvaluates W e)) c.in_ok-answer.answer in
    subst (P (is_scalar c.args.left.form)) c.is_scalar-2.ensures (subst (λ x. P x c.is_scalar-2.result) c.is_scalar.ensures (c.in_ok-answer.ensures W d e left right))
