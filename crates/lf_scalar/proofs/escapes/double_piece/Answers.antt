use Rattle.std.proofs.Common.{get_or}
use Rattle.lf_scalar.specs.Cells.{cell}
use Rattle.lf_scalar.proofs.PieceCode.{double-bare, double-quote, double-escape}
use Rattle.lf_scalar.proofs.escapes.double_piece.Goals as goal

pub returns-in-Some-clause-value : goal.returns-in-Some-clause-value
returns-in-Some-clause-value c = double-escape c.args.at c.args.rest.now _ c.requires.some c.if-rest-ne92.false (rw c.past.ensures at c.in-Some.ensures.value (cell (get_or c.args.rest.now 0 0) c.args.at))

pub returns-in-None-clause-value : goal.returns-in-None-clause-value
returns-in-None-clause-value c = double-escape c.args.at c.args.rest.now _ c.requires.some c.if-rest-ne92.false (rw c.past.ensures at c.in-None.ensures.value (cell (get_or c.args.rest.now 0 0) c.args.at))

pub returns-then-rest-eq34-clause-value : goal.returns-then-rest-eq34-clause-value
returns-then-rest-eq34-clause-value c = double-quote c.args.at c.args.rest.now c.requires.some c.if-rest-eq34.true

pub returns-then-rest-ne92-clause-value : goal.returns-then-rest-ne92-clause-value
returns-then-rest-ne92-clause-value c = double-bare c.args.at c.args.rest.now c.requires.some c.if-rest-ne92.true c.if-rest-eq34.false
