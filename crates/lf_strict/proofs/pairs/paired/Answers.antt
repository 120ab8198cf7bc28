use Rattle.std.proofs.Common.{List, refl, sym, subst}
use Rattle.std.proofs.lemmas.Result.{IfOk-weaker}
use Rattle.lf_ast.specs.Labels.{Labels}
use Rattle.lf_ast.specs.declared.expr.Group.{Group}
use Rattle.lf_ast.specs.declared.expr.Group.TheVariants.{Left}
use Rattle.lf_witness.specs.Strict.{IsAmbiguous}
use Rattle.lf_strict.proofs.ManySide.{from_left, from_right, same_out}
use Rattle.lf_strict.proofs.pairs.paired.Goals as goal

pub returns-in-Left : goal.returns-in-Left
returns-in-Left c =
    let op = c.args.op in
    let m = c.args.matching.now in
    let P : List Labels = c.args.left.now in
    let Q : List Labels = c.args.right.now in
    let ambiguous : Group → Type 0 = λ g. IsAmbiguous g m P Q in
    IfOk-weaker c.many_to_one.result _ _ (from_left op m P Q (same_out op m P Q Left c.in-Left.is (λ s t. refl)) (subst ambiguous (sym c.in-Left.is)) (subst ambiguous c.in-Left.is)) c.many_to_one.ensures

pub returns-in-Right : goal.returns-in-Right
returns-in-Right c = IfOk-weaker c.many_to_one-in-Right.result _ _ (from_right c.args.op c.args.matching.now c.args.left.now c.args.right.now c.in-Right.is) c.many_to_one-in-Right.ensures
