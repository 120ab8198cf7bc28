use Rattle.lf_classes.proofs.WordLists.{all_more, lacked_here}
use Rattle.lf_classes.proofs.range.has_all_in_last.Goals as goal

pub loop-number-init : goal.loop-number-init
loop-number-init c = λ k l u. c.requires.before k u

pub returns-then-meets : goal.returns-then-meets
returns-then-meets c = record {
  all = λ e. absurd (cc);
  lacks = λ e. lacked_here c.args.words.now c.args.others.now c.args.to c.loop-number.number c.mask.result c.without.result
      c.without.ensures.kept c.without.ensures.cleared c.mask.ensures.inside c.mask.ensures.above (c.meets.ensures.some c.if-meets.true);
}

pub loop-number-preserved : goal.loop-number-preserved
loop-number-preserved c =
    all_more c.args.words.now c.args.others.now c.args.to c.loop-number.number c.mask.result c.without.result
    c.without.ensures.kept c.without.ensures.cleared c.mask.ensures.inside c.mask.ensures.above c.loop-number.invariant (c.meets.ensures.none c.if-meets.false)
