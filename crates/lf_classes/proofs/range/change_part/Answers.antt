use Rattle.std.proofs.Common.{◌/◌, ◌<◌, length, refl, ◌∙◌, arith}
use Rattle.std.proofs.lemmas.List.{get_or_read}
use Rattle.lf_classes.specs.views.Bits.{bit_of, changed}
use Rattle.lf_classes.proofs.WordLists.{changed_here, changed_more, changed_none}
use Rattle.lf_classes.proofs.range.change_part.Goals as goal

pub loop-number-init : goal.loop-number-init
loop-number-init c =
    changed_none (λ k. changed c.args.change (bit_of c.args.words.now.items k) (bit_of c.args.others.now k)) c.args.words.now.items c.args.from c.args.to (c.args.from / 64) refl

pub loop-number-preserved : goal.loop-number-preserved
loop-number-preserved c =
    let old = c.args.words.now.items in
    let others = c.args.others.now in
    let words = c.loop-number.words.items in
    let n = c.loop-number.number in
    let word = c.index-word.result.now in
    let h : n < length words = omega (arith, c.loop-number.invariant.len, c.requires.same, c.requires.within) in
    let read = get_or_read words n word h c.index-word.ensures 0 in
    changed_more (λ k. changed c.args.change (bit_of old k) (bit_of others k)) old words c.args.from c.args.to n word c.mask.result c.picked.result h c.loop-number.invariant read c.picked.ensures.outside
    (λ i k on. c.picked.ensures.inside i k on ∙ c.changed-other.ensures i ∙ changed_here (changed c.args.change) old words others n i word k read (c.loop-number.invariant.later n (omega arith)))
    c.mask.ensures.inside c.mask.ensures.below c.mask.ensures.above
