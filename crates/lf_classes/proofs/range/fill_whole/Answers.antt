use Rattle.std.proofs.Common.{◌*◌, ◌<◌, length, get_or, refl, ◌∙◌, arith}
use Rattle.std.proofs.Math.Nat.{div-add-mod}
use Rattle.lf_classes.proofs.WordLists.{changed_more, changed_none}
use Rattle.lf_classes.proofs.range.fill_whole.Goals as goal

pub loop-number-init : goal.loop-number-init
loop-number-init c = record {
  low = omega arith;
  changed = changed_none (λ k. c.args.on) c.args.words.now (64 * c.args.first) (64 * c.args.last) c.args.first (omega (arith, div-add-mod (64 * c.args.first) 64));
}

pub loop-number-preserved : goal.loop-number-preserved
loop-number-preserved c =
    let words = c.loop-number.words in
    let n = c.loop-number.number in
    let before = c.loop-number.invariant in
    let h : n < length words = omega (arith, before.changed.len, c.requires.within) in
    record {
      low = omega (arith, before.low);
      changed = changed_more (λ k. c.args.on) c.args.words.now words (64 * c.args.first) (64 * c.args.last) n (get_or words n 0) c.whole-all.result c.picked.result h before.changed
          refl c.picked.ensures.outside (λ i k on. c.picked.ensures.inside i k on ∙ c.whole.ensures i k) (λ i k l u. c.whole-all.ensures i k)
          (λ i k l. absurd (omega (arith, l, before.low))) (λ i k u. absurd (omega (arith, u, k)));
    }
