use Rattle.std.proofs.Common.{◌*◌, get_or, refl, arith}
use Rattle.lf_classes.proofs.WordLists.{found_here, none_more}
use Rattle.lf_classes.proofs.range.has_any_in_whole.Goals as goal

pub loop-number-init : goal.loop-number-init
loop-number-init c = record {
  low = omega arith;
  none = λ k l u b. absurd (omega (arith, l, b));
}

pub returns-then-meets : goal.returns-then-meets
returns-then-meets c = record {
  some = λ e. found_here c.args.words.now (64 * c.args.first) (64 * c.args.last) c.loop-number.number (get_or c.args.words.now c.loop-number.number 0) c.whole-all.result refl
      (λ i k l u. c.whole-all.ensures i k) (λ i k l. absurd (omega (arith, l, c.loop-number.invariant.low))) (λ i k u. absurd (omega (arith, u, k))) (c.meets.ensures.some c.if-meets.true);
  none = λ e. absurd (cc);
}

pub loop-number-preserved : goal.loop-number-preserved
loop-number-preserved c = record {
  low = omega (arith, c.loop-number.invariant.low);
  none = none_more c.args.words.now (64 * c.args.first) (64 * c.args.last) c.loop-number.number (get_or c.args.words.now c.loop-number.number 0) c.whole-all.result refl
      (λ i k l u. c.whole-all.ensures i k) (λ i k l. absurd (omega (arith, l, c.loop-number.invariant.low))) (λ i k u. absurd (omega (arith, u, k))) c.loop-number.invariant.none (c.meets.ensures.none c.if-meets.false);
}
