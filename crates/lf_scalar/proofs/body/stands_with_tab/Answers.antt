use Rattle.std.proofs.Common.{arith, inl, inr}
use Rattle.std.proofs.lemmas.Bool.Decides.{leb_tells}
use Rattle.lf_scalar.proofs.body.stands_with_tab.Goals as goal

pub returns-then-spaces-above : goal.returns-then-spaces-above
returns-then-spaces-above c = λ at feed.
    elim (leb_tells c.args.above c.args.spaces) [
      | inl a ↦ rw a.0 (c.has_tab.ensures at feed)
      | inr a ↦ absurd (omega (arith, a.1, c.if-spaces-above.true))
    ]
