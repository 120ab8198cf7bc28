use Rattle.std.proofs.Common.{get_or, refl, arith}
use Rattle.std.proofs.Math.Nat.{div-add-mod}
use Rattle.lf_classes.proofs.WordLists.{found_here, none_more}
use Rattle.lf_classes.proofs.range.has_any_in_part.Goals as goal

pub loop-number-init : goal.loop-number-init
loop-number-init c = λ k l u b. absurd (omega (arith, div-add-mod c.args.from 64))

pub returns-then-meets : goal.returns-then-meets
returns-then-meets c = record {
  some = λ e. found_here c.args.words.now c.args.from c.args.to c.loop-number.number (get_or c.args.words.now c.loop-number.number 0) c.mask.result refl
      c.mask.ensures.inside c.mask.ensures.below c.mask.ensures.above (c.meets.ensures.some c.if-meets.true);
  none = λ e. absurd (cc);
}

pub loop-number-preserved : goal.loop-number-preserved
loop-number-preserved c =
    none_more c.args.words.now c.args.from c.args.to c.loop-number.number (get_or c.args.words.now c.loop-number.number 0) c.mask.result refl
    c.mask.ensures.inside c.mask.ensures.below c.mask.ensures.above c.loop-number.invariant (c.meets.ensures.none c.if-meets.false)
