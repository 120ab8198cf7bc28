use Rattle.std.proofs.Common.{sym, ◌∙◌}
use Rattle.lf_round_tests.proofs.rows.has_all_of.Goals as goal

pub covers-requires : goal.covers-requires
covers-requires c = c.requires.row ∙ sym c.requires.other
