use Rattle.std.proofs.Common.{◌*◌, ◌<◌, length, get_or, refl, ◌∙◌, arith}
use Rattle.std.proofs.Math.Nat.{div-add-mod}
use Rattle.lf_classes.specs.views.Bits.{bit_of, changed}
use Rattle.lf_classes.proofs.WordLists.{changed_here, changed_more, changed_none}
use Rattle.lf_classes.proofs.range.change_whole.Goals as goal

pub loop-number-init : goal.loop-number-init
loop-number-init c = record {
  low = omega arith;
  changed = changed_none (λ k. changed c.args.change (bit_of c.args.words.now k) (bit_of c.args.others.now k)) c.args.words.now (64 * c.args.first) (64 * c.args.last) c.args.first
      (omega (arith, div-add-mod (64 * c.args.first) 64));
}

pub loop-number-preserved : goal.loop-number-preserved
loop-number-preserved c =
    let old = c.args.words.now in
    let others = c.args.others.now in
    let words = c.loop-number.words in
    let n = c.loop-number.number in
    let word = get_or words n 0 in
    let before = c.loop-number.invariant in
    let h : n < length words = omega (arith, before.changed.len, c.requires.same, c.requires.within) in
    record {
      low = omega (arith, before.low);
      changed = changed_more (λ k. changed c.args.change (bit_of old k) (bit_of others k)) old words (64 * c.args.first) (64 * c.args.last) n word c.whole-all.result c.picked.result h before.changed refl c.picked.ensures.outside
          (λ i k on. c.picked.ensures.inside i k on ∙ c.changed-other.ensures i ∙ changed_here (changed c.args.change) old words others n i word k refl (before.changed.later n (omega arith)))
          (λ i k l u. c.whole-all.ensures i k) (λ i k l. absurd (omega (arith, l, before.low))) (λ i k u. absurd (omega (arith, u, k)));
    }
