use Rattle.std.proofs.Common.{arith}
use Rattle.lf_flow.proofs.ClassSets.{set_length}
use Rattle.lf_tables.proofs.environment.write_set.Goals as goal

pub has-requires-clause-class : goal.has-requires-clause-class
has-requires-clause-class c = omega (arith, set_length c.args.universe.now c.args.row.now c.requires.row c.args.label c.requires.label)
