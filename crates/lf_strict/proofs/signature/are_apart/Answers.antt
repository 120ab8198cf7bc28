use Rattle.std.proofs.Common.{List, sym, ◌∙◌, subst}
use Rattle.std.specs.List.{AllZip}
use Rattle.lf_ast.specs.Labels.{Labels}
use Rattle.lf_strict.specs.views.Signed.{IsSignature}
use Rattle.lf_strict.proofs.MadeApart.{made_apart}
use Rattle.lf_strict.proofs.SignaturesApart.{tells_apart}
use Rattle.lf_strict.proofs.signature.are_apart.Goals as goal

pub returns : goal.returns
returns c =
    let m = c.args.matching.now in
    let made : List Labels = c.in_ok-made.made.items in
    let each = subst (λ (l : List Labels). AllZip (IsSignature m) l made) c.as_slice.ensures c.in_ok-made.ensures in
    tells_apart m c.args.samples.now c.apart.result c.is_some.result (made_apart (IsSignature m) (λ s t u a b. a.0 ∙ sym b.0) c.args.samples.now made c.requires each c.apart.result c.apart.ensures) c.is_some.ensures
