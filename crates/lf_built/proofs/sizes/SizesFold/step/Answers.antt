use Rattle.std.proofs.Common.{◌≡◌, ◌+◌, ℕ, List, sum, ap, ◌∙◌, subst}
use Rattle.std.specs.Prelude.{IfOk}
use Rattle.lf_ast.specs.Tree.{tree}
use Rattle.lf_built.proofs.PartSizes.{size_is}
use Rattle.lf_built.proofs.sizes.SizesFold.step.Goals as goal

pub returns : goal.returns
returns c =
    let P : ℕ → Type 0 = λ n. IfOk c.one_and.result (λ made. made ≡ n) in
    subst P (ap (λ (sizes : List ℕ). sum sizes + 1) (c.as_slice.ensures.value ∙ c.requires) ∙ size_is (tree c.args.expr.now)) c.one_and.ensures
