use Rattle.std.proofs.Common.{◌*◌, arith}
use Rattle.lf_classes.proofs.WordLists.{all_more, lacked_here}
use Rattle.lf_classes.proofs.range.has_all_in_whole.Goals as goal

pub loop-number-init : goal.loop-number-init
loop-number-init c = λ k l u. absurd (omega arith)

pub returns-then-meets : goal.returns-then-meets
returns-then-meets c = record {
  all = λ e. absurd (cc);
  lacks = λ e. lacked_here c.args.words.now c.args.others.now (64 * c.args.count) c.loop-number.number c.whole-all.result c.without.result
      c.without.ensures.kept c.without.ensures.cleared (λ i k l u. c.whole-all.ensures i k) (λ i k u. absurd (omega (arith, u, k))) (c.meets.ensures.some c.if-meets.true);
}

pub loop-number-preserved : goal.loop-number-preserved
loop-number-preserved c =
    all_more c.args.words.now c.args.others.now (64 * c.args.count) c.loop-number.number c.whole-all.result c.without.result
    c.without.ensures.kept c.without.ensures.cleared (λ i k l u. c.whole-all.ensures i k) (λ i k u. absurd (omega (arith, u, k))) c.loop-number.invariant (c.meets.ensures.none c.if-meets.false)
