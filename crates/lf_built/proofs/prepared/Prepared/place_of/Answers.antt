use Rattle.std.proofs.Common.{◌+◌, ◌∙◌, ap, arith}
use Rattle.lf_built.proofs.StandingParts.{before_ends, before_within, next_place, size_within}
use Rattle.lf_built.proofs.prepared.Prepared.place_of.Goals as goal

pub overflow_add-place : goal.overflow_add-place
overflow_add-place c = let w = size_within c.args.self.now c.requires.known c.args.spot.now c.requires.spot c.index-parts.result.now c.index-parts.ensures in omega (arith, w, c.len-all.ensures.count, c.len-all.ensures.small)

pub size-place-requires : goal.size-place-requires
size-place-requires c = before_within c.args.self.now c.requires.known c.args.spot.now c.requires.spot c.index-parts.result.now c.index-parts.ensures c.loop-before.before c.args.at c.requires.part.0 c.requires.part.1 (omega (arith, c.loop-before-test.true)) c.loop-before.place c.loop-before.invariant

pub overflow_add-place-in-loop-before : goal.overflow_add-place-in-loop-before
overflow_add-place-in-loop-before c = let w = before_ends c.args.self.now c.requires.known c.args.spot.now c.requires.spot c.index-parts.result.now c.index-parts.ensures c.loop-before.before c.args.at c.requires.part.0 c.requires.part.1 (omega (arith, c.loop-before-test.true)) c.loop-before.place c.loop-before.invariant in omega (arith, w, c.size-place.ensures, c.len-all.ensures.count, c.len-all.ensures.small)

pub loop-before-preserved : goal.loop-before-preserved
loop-before-preserved c = ap (λ n. c.loop-before.place + n) c.size-place.ensures ∙ next_place c.args.self.now c.requires.known c.args.spot.now c.requires.spot c.index-parts.result.now c.index-parts.ensures c.loop-before.before c.args.at c.requires.part.0 c.requires.part.1 (omega (arith, c.loop-before-test.true)) c.loop-before.place c.loop-before.invariant
