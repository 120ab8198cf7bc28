use Rattle.std.proofs.Common.{◌∙◌}
use Rattle.lf_built.proofs.StandingParts.{fork_told, fork_within}
use Rattle.lf_built.proofs.prepared.Prepared.is_fork.Goals as goal

pub is_fork-requires : goal.is_fork-requires
is_fork-requires c = fork_within c.args.self.now c.requires.known c.args.spot.now c.requires.spot c.index.result.now c.index.ensures

pub returns : goal.returns
returns c = c.is_fork.ensures ∙ fork_told c.args.self.now c.requires.known c.args.spot.now c.requires.spot c.index.result.now c.index.ensures
