use Rattle.std.proofs.Common.{◌≡◌, ◌++◌, List, ◌∙◌, ap₂}
use Rattle.lf_ast.specs.Labels.{Labels}
use Rattle.lf_strict.proofs.Filtered.{are_either}
use Rattle.lf_strict.proofs.signature.either.Goals as goal

pub returns : goal.returns
returns c =
    let P : List Labels = c.args.left.now in
    let Q : List Labels = c.args.right.now in
    let others : List Labels = c.in_ok-others.others in
    let M : List Labels = c.push_each-2.new.all.items in
    let append = λ (x y : List Labels). x ++ y in
    let is : M ≡ P ++ others = c.in_ok-push_each-2.ensures ∙ ap₂ append (c.in_ok-push_each.ensures ∙ ap₂ append c.new-samples.ensures.items c.as_slice.ensures) c.as_slice-2.ensures in
    (are_either c.args.matching.now P Q others M c.together.result c.in_ok-others.ensures.0 is c.together.ensures.same, c.together.ensures.ascends)
