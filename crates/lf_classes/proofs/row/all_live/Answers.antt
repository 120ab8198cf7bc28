use Rattle.std.proofs.Common.{◌≡◌, ℕ, true, inl, inr, sym, subst, arith}
use Rattle.std.proofs.lemmas.Bool.{cases_lt}
use Rattle.lf_semantics.specs.ClassRows.{holds}
use Rattle.lf_classes.specs.views.Cut.{cut}
use Rattle.lf_classes.proofs.Cutting.{length-cut}
use Rattle.lf_semantics.proofs.RowLaws.{live_when}
use Rattle.lf_classes.proofs.row.all_live.Goals as goal

pub loop-label-init : goal.loop-label-init
loop-label-init c = λ k h. absurd (omega arith)

-- a label whose bits were looked through
pub returns-then-not-has_class : goal.returns-then-not-has_class
returns-then-not-has_class c = sym (c.has_class.ensures.none c.if-not-has_class.true)

pub loop-label-preserved : goal.loop-label-preserved
loop-label-preserved c = λ k h. elim (cases_lt k c.loop-label.label) [
  | inl b ↦ c.loop-label.invariant k b
  | inr b ↦ (let q : c.loop-label.label ≡ k = omega (arith, b, h) in
      let P : ℕ → Type 0 = λ m. (i : ℕ) × (holds (cut c.args.shape.now c.args.bits.now) m i ≡ true) in
      subst P q (c.has_class.ensures.some c.if-not-has_class.false))
]

pub returns : goal.returns
returns c =
    let counts = c.args.shape.now in
    sym (live_when (cut counts c.args.bits.now) (λ l h. c.loop-label.invariant l (omega (arith, length-cut counts c.args.bits.now, c.labels-label-end.ensures))))
