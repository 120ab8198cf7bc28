use Rattle.std.proofs.Common.{eqb, sym, ◌∙◌, ap, w64}
use Rattle.std.proofs.lemmas.Nat.Bits.{bit_at_set_same, bit_at_set_other, bit_at_clear_same, bit_at_clear_other}
use Rattle.lf_classes.proofs.word.with_bit.Goals as goal

pub returns-then-on : goal.returns-then-on
returns-then-on c = record {
  same = ap (λ x. eqb x 1) (bit_at_set_same w64 c.args.word c.args.place c.requires) ∙ sym c.if-on.true;
  others = λ i l n. ap (λ x. eqb x 1) (bit_at_set_other w64 c.args.word c.args.place c.requires i n);
}

pub returns-else-on : goal.returns-else-on
returns-else-on c = record {
  same = ap (λ x. eqb x 1) (bit_at_clear_same w64 c.args.word c.args.place c.requires) ∙ sym c.if-on.false;
  others = λ i l n. ap (λ x. eqb x 1) (bit_at_clear_other w64 c.args.word c.args.place c.requires i l n);
}
