use Rattle.std.proofs.Common.{eqb, sym, ◌∙◌, ap}
use Rattle.std.proofs.lemmas.Nat.Bits.{bit_at_ones, bit_at-zero}
use Rattle.lf_classes.proofs.word.whole.Goals as goal

pub returns-then-on : goal.returns-then-on
returns-then-on c = λ i h. ap (λ x. eqb x 1) (bit_at_ones 64 i h) ∙ sym c.if-on.true

pub returns-else-on : goal.returns-else-on
returns-else-on c = λ i h. ap (λ x. eqb x 1) (bit_at-zero i) ∙ sym c.if-on.false
