use Rattle.std.proofs.Common.{◌≡◌, ℕ, drop, false, ap, arith, sym, ◌∙◌, subst, inl, inr}
use Rattle.std.proofs.lemmas.Bool.{cases_lt}
use Rattle.std.proofs.lemmas.List.{drop_all}
use Rattle.lf_yaml.specs.Characters.{is_wrong}
use Rattle.lf_yaml.proofs.characters.first_wrong.Goals as goal

pub loop-offset-preserved : goal.loop-offset-preserved
loop-offset-preserved c = λ j above lt.
    elim (cases_lt j c.loop-offset.offset) [
      | inl less ↦ c.loop-offset.invariant j above less
      | inr more ↦ let same : c.loop-offset.offset ≡ j = omega (arith, lt, more) in subst (λ (k : ℕ). is_wrong (drop k c.args.bytes.now) ≡ false) same (sym c.is_wrong_at.ensures ∙ c.if-is_wrong_at.false)
    ]

pub returns-clause-found : goal.returns-clause-found
returns-clause-found c = λ k above.
    elim (cases_lt k c.loop-offset.offset) [
      | inl less ↦ c.loop-offset.invariant k above less
      | inr more ↦ ap is_wrong (drop_all k c.args.bytes.now (omega (arith, c.loop-offset-test.false, more)))
    ]
