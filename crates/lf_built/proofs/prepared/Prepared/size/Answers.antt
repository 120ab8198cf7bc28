use Rattle.std.proofs.Common.{◌∙◌, arith}
use Rattle.lf_built.proofs.StandingParts.{size_ends, size_told, size_within}
use Rattle.lf_built.proofs.prepared.Prepared.size.Goals as goal

pub size-requires : goal.size-requires
size-requires c = size_within c.args.self.now c.requires.known c.args.spot.now c.requires.spot c.index-parts.result.now c.index-parts.ensures

pub returns-clause-count : goal.returns-clause-count
returns-clause-count c = c.size.ensures ∙ size_told c.args.self.now c.requires.known c.args.spot.now c.requires.spot c.index-parts.result.now c.index-parts.ensures

pub returns-clause-small : goal.returns-clause-small
returns-clause-small c =
    let told = size_told c.args.self.now c.requires.known c.args.spot.now c.requires.spot c.index-parts.result.now c.index-parts.ensures in
    let ends = size_ends c.args.self.now c.requires.known c.args.spot.now c.requires.spot c.index-parts.result.now c.index-parts.ensures in
    omega (arith, told, ends, c.size.ensures, c.len-all.ensures.count, c.len-all.ensures.small)
