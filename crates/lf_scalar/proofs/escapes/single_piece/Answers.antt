use Rattle.std.proofs.Common.{arith}
use Rattle.lf_scalar.proofs.PieceCode.{single-bare, single-twice, single-none}
use Rattle.lf_scalar.proofs.escapes.single_piece.Goals as goal
use Rattle.lf_scalar.proofs.escapes.single_piece.Goals.{else-rest-gt1-via-then-rest-gt1+else-rest-eq39, else-rest-gt1-via-else-rest-gt1}

pub returns-then-rest-ne39-clause-value : goal.returns-then-rest-ne39-clause-value
returns-then-rest-ne39-clause-value c = single-bare c.args.at c.args.rest.now c.requires c.if-rest-ne39.true

pub returns-then-rest-eq39-clause-value : goal.returns-then-rest-eq39-clause-value
returns-then-rest-eq39-clause-value c = single-twice c.args.at c.args.rest.now c.if-rest-gt1.true c.if-rest-ne39.false c.if-rest-eq39.true

pub returns-clause-value : goal.returns-clause-value
returns-clause-value c = single-none c.args.at c.args.rest.now c.requires c.if-rest-ne39.false
    (λ lt. elim c.else-rest-gt1.branch [
      | else-rest-gt1-via-then-rest-gt1+else-rest-eq39 w ↦ w.if-rest-eq39.false
      | else-rest-gt1-via-else-rest-gt1 w ↦ absurd (omega (arith, lt, w.if-rest-gt1.false))
    ])
