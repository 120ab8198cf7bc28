use Rattle.std.proofs.Common.{sym, ◌∙◌}
use Rattle.lf_flow.proofs.Joins.{same_row}
use Rattle.lf_built.proofs.row_making.unless_same.Goals as goal

pub covers-requires : goal.covers-requires
covers-requires c = c.requires.rows.2.0 ∙ sym c.requires.rows.1.0

pub returns-then-covers-2-clause-same : goal.returns-then-covers-2-clause-same
returns-then-covers-2-clause-same c = same_row c.requires.rows.0 c.args.other.now c.args.row c.requires.rows.2 c.requires.rows.1 (c.covers-then-covers.ensures.under.0 c.if-covers-2.true) (c.covers.ensures.under.0 c.if-covers.true)
