use Rattle.std.proofs.Common.{arith}
use Rattle.lf_flow.proofs.ClassSets.{set_length}
use Rattle.lf_flow.proofs.replacing.classes_in.Goals as goal

pub has-requires-clause-class : goal.has-requires-clause-class
has-requires-clause-class c = omega (arith, c.classes-class-end.ensures, c.loop-class-test.true, set_length c.args.universe.now c.args.row.now c.requires.shape c.args.label c.requires.label)
