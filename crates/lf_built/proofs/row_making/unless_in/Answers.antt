use Rattle.lf_fix.proofs.Rounds.{one_named}
use Rattle.lf_semantics.specs.Environments.{IsRow}
use Rattle.lf_built.proofs.StoredRows.{unless_named}
use Rattle.lf_built.proofs.row_making.unless_in.Goals as goal

pub unless_same-requires : goal.unless_same-requires
unless_same-requires c =
    let u = c.requires.rows.0 in
    record { rows = (u, c.requires.rows.2, one_named (IsRow u) c.args.env.now c.args.name.now c.in-Some.other.now c.requires.rows.1.rows c.in-Some.ensures.some) }

pub returns-in-Some : goal.returns-in-Some
returns-in-Some c = unless_named c.args.env.now c.args.name.now c.args.row c.in-Some.other.now c.unless_same.result c.in-Some.ensures.some c.unless_same.ensures.own c.unless_same.ensures.same
