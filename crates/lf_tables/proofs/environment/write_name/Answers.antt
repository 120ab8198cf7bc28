use Rattle.lf_semantics.specs.ClassRows.{Sets}
use Rattle.lf_semantics.specs.Environments.{IsRow}
use Rattle.lf_fix.proofs.Rounds.{one_named}
use Rattle.lf_tables.proofs.environment.write_name.Goals as goal

pub write_row-requires : goal.write_row-requires
write_row-requires c = (one_named (λ (x : Sets). IsRow c.args.universe.now x) c.args.env.now c.args.name.now c.in-Some.row.now c.requires.rows c.in-Some.ensures.some).0
