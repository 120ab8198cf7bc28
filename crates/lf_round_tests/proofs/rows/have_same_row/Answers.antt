use Rattle.lf_round_tests.proofs.NamedRows.{named_shape}
use Rattle.lf_round_tests.proofs.rows.have_same_row.Goals as goal

pub are_rows_equal-requires-clause-row : goal.are_rows_equal-requires-clause-row
are_rows_equal-requires-clause-row c = named_shape c.args.universe.now c.args.one.now c.args.name.now c.in-Some.row.now c.requires.one.rows c.in-Some.ensures.some

pub are_rows_equal-requires-clause-other : goal.are_rows_equal-requires-clause-other
are_rows_equal-requires-clause-other c = named_shape c.args.universe.now c.args.other.now c.args.name.now c.in-Some-row.same.now c.requires.other.rows c.in-Some-row.ensures.some
