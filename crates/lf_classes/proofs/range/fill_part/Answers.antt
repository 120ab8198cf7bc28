use Rattle.std.proofs.Common.{◌/◌, ◌<◌, length, refl, ◌∙◌, arith}
use Rattle.std.proofs.lemmas.List.{get_or_read}
use Rattle.lf_classes.proofs.WordLists.{changed_more, changed_none}
use Rattle.lf_classes.proofs.range.fill_part.Goals as goal

pub loop-number-init : goal.loop-number-init
loop-number-init c = changed_none (λ k. c.args.on) c.args.words.now.items c.args.from c.args.to (c.args.from / 64) refl

pub loop-number-preserved : goal.loop-number-preserved
loop-number-preserved c =
    let words = c.loop-number.words.items in
    let n = c.loop-number.number in
    let h : n < length words = omega (arith, c.loop-number.invariant.len, c.requires.within) in
    changed_more (λ k. c.args.on) c.args.words.now.items words c.args.from c.args.to n c.index.result.now c.mask.result c.picked.result h c.loop-number.invariant
    (get_or_read words n c.index.result.now h c.index.ensures 0) c.picked.ensures.outside (λ i k on. c.picked.ensures.inside i k on ∙ c.whole.ensures i k) c.mask.ensures.inside c.mask.ensures.below c.mask.ensures.above
