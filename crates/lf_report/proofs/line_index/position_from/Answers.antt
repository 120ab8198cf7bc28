use Rattle.std.proofs.Common.{◌≡◌, min, length, arith}
use Rattle.lf_report.proofs.Positions.{position_is}
use Rattle.lf_report.proofs.line_index.position_from.Goals as goal

pub returns-clause-of : goal.returns-clause-of
returns-clause-of c =
    let at : c.moved.result.offset ≡ min c.args.offset (length c.args.bytes.now) = omega (arith, c.moved.ensures.offset, c.min-end.ensures) in
    position_is c.args.bytes.now c.args.offset c.moved.result c.moved.ensures.position at
