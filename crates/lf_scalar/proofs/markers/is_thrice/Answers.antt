use Rattle.std.proofs.Common.{arith}
use Rattle.lf_scalar.proofs.Thrice.{thrice-short}
use Rattle.lf_scalar.proofs.markers.is_thrice.Goals as goal

pub returns-in-len1 : goal.returns-in-len1
returns-in-len1 c = thrice-short c.args.byte c.args.text.now (omega arith)

pub returns-in-len2 : goal.returns-in-len2
returns-in-len2 c = thrice-short c.args.byte c.args.text.now (omega arith)
