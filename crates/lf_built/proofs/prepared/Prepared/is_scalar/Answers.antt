use Rattle.std.proofs.Common.{◌∙◌}
use Rattle.lf_built.proofs.StandingParts.{scalar_told, scalar_within}
use Rattle.lf_built.proofs.prepared.Prepared.is_scalar.Goals as goal

pub is_scalar-requires : goal.is_scalar-requires
is_scalar-requires c = scalar_within c.args.self.now c.requires.known c.args.spot.now c.requires.spot c.index.result.now c.index.ensures

pub returns : goal.returns
returns c = c.is_scalar.ensures ∙ scalar_told c.args.self.now c.requires.known c.args.spot.now c.requires.spot c.index.result.now c.index.ensures
