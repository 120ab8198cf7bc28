use Rattle.std.proofs.Common.{◌≡◌, Bool, true, false, not, nat_eq, refl, sym, ◌∙◌, ap, arith}
use Rattle.std.specs.Prelude.{bit_and}
use Rattle.std.proofs.lemmas.Nat.{and_le_l}
use Rattle.std.proofs.lemmas.Bool.Decides.{Decides-eqb}
use Rattle.lf_classes.proofs.WordBits.{none_met, some_met}
use Rattle.lf_classes.proofs.word.meets.Goals as goal

not_false : (b : Bool) → not b ≡ false → b ≡ true
not_false true e = refl
not_false false e = absurd (cc)

pub returns-clause-some : goal.returns-clause-some
returns-clause-some c = λ e.
    some_met c.args.word c.args.mask (omega (arith, and_le_l c.args.word c.args.mask)) (λ z.
    let f : not (nat_eq (bit_and c.args.word c.args.mask) 0) ≡ false = ap (λ x. not (nat_eq x 0)) z in
    let clash : true ≡ false = sym e ∙ f in cc)

pub returns-clause-none : goal.returns-clause-none
returns-clause-none c = λ e i h on.
    none_met c.args.word c.args.mask ((Decides-eqb (bit_and c.args.word c.args.mask) 0).0 (not_false (nat_eq (bit_and c.args.word c.args.mask) 0) e)) i on
