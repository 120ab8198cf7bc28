use Rattle.std.proofs.Common.{arith}
use Rattle.lf_flow.proofs.ClassSets.{set_length}
use Rattle.lf_flow.proofs.joining.may_be_absent.Goals as goal

pub has-requires-clause-class : goal.has-requires-clause-class
has-requires-clause-class c = omega (arith, set_length c.args.universe.now c.args.row.now c.requires.shape c.label_of.result c.label_of.ensures.within)
