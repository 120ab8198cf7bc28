use Rattle.std.proofs.Common.{inl, inr, List, refl, sym, subst}
use Rattle.std.proofs.lemmas.Result.{IfOk-weaker}
use Rattle.lf_ast.specs.Labels.{Labels}
use Rattle.lf_ast.specs.declared.expr.Group.{Group}
use Rattle.lf_ast.specs.declared.expr.Group.TheVariants.{One}
use Rattle.lf_witness.specs.Strict.{HasTwoAlike, IsAmbiguous}
use Rattle.lf_strict.specs.views.Signed.{TellsApart}
use Rattle.lf_strict.proofs.ManySide.{from_left, same_out}
use Rattle.lf_strict.proofs.pairs.one_to_one.Goals as goal

pub returns-then-apart : goal.returns-then-apart
returns-then-apart c =
    let op = c.args.op in
    let m = c.args.matching.now in
    let P : List Labels = c.args.left.now in
    let Q : List Labels = c.args.right.now in
    let ambiguous : Group → Type 0 = λ g. IsAmbiguous g m P Q in
    let none : HasTwoAlike m P → ⊥ = subst (TellsApart m P) c.if-apart.true c.in_ok-apart.ensures in
    let back : IsAmbiguous m.group m P Q → HasTwoAlike m Q = λ a. elim (subst ambiguous c.requires.group a) [
      | inl two ↦ absurd (none two)
      | inr two ↦ two
    ] in
    IfOk-weaker c.many_to_one.result _ _ (from_left op m P Q (same_out op m P Q One c.requires.group (λ s t. refl)) (λ two. subst ambiguous (sym c.requires.group) (inr two)) back) c.many_to_one.ensures

pub returns-else-apart : goal.returns-else-apart
returns-else-apart c =
    let m = c.args.matching.now in
    let P : List Labels = c.args.left.now in
    let Q : List Labels = c.args.right.now in
    let ambiguous : Group → Type 0 = λ g. IsAmbiguous g m P Q in
    let two : HasTwoAlike m P = subst (TellsApart m P) c.if-apart.false c.in_ok-apart.ensures in
    inl (subst ambiguous (sym c.requires.group) (inl two))
