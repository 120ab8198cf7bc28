use Rattle.std.proofs.Common.{◌∙◌}
use Rattle.lf_built.proofs.StandingParts.{row_told, row_within}
use Rattle.lf_built.proofs.prepared.Prepared.packed_row.Goals as goal

pub packed_row-requires : goal.packed_row-requires
packed_row-requires c = row_within c.args.self.now c.requires.known c.args.spot.now c.requires.spot c.index.result.now c.index.ensures

pub returns : goal.returns
returns c = c.packed_row.ensures ∙ row_told c.args.self.now c.requires.known c.args.spot.now c.requires.spot c.index.result.now c.index.ensures
