use Rattle.std.proofs.Common.{eqb, ◌∙◌, ap, arith}
use Rattle.std.specs.Int.{bit_at}
use Rattle.std.proofs.lemmas.Nat.Bits.{ones_shl, bit_at_mask_inside, bit_at_mask_below, bit_at-zero}
use Rattle.lf_classes.proofs.word.from_place.Goals as goal

pub returns-then-place-eq64 : goal.returns-then-place-eq64
returns-then-place-eq64 c = record {
  below = λ i h. ap (λ x. eqb x 1) (bit_at-zero i);
  above = λ i h k. absurd (omega arith);
}

pub returns-else-place-eq64 : goal.returns-else-place-eq64
returns-else-place-eq64 c =
    let p = c.args.place in
    let e = ones_shl 64 p (omega arith) in
    record {
      below = λ i h. ap (λ w. eqb (bit_at w i) 1) e ∙ ap (λ x. eqb x 1) (bit_at_mask_below p 64 i h);
      above = λ i h k. ap (λ w. eqb (bit_at w i) 1) e ∙ ap (λ x. eqb x 1) (bit_at_mask_inside p 64 i h k);
    }
