use Rattle.std.proofs.Common.{◌≡◌, ◌++◌, List, ap₂, ◌∙◌, subst}
use Rattle.std.proofs.lemmas.List.{take-append-drop}
use Rattle.lf_ast.specs.Labels.{Labels}
use Rattle.lf_witness.specs.Strict.{AreSame}
use Rattle.lf_strict.proofs.store.Store.of.Goals as goal

pub returns : goal.returns
returns c =
    let append = λ (x y : List Labels). x ++ y in
    let is : c.new-store.result ++ c.split_at.result.1.now ≡ c.args.samples.now =
    ap₂ append (c.new-store.ensures ∙ c.split_at.ensures.front) c.split_at.ensures.back ∙ take-append-drop c.min.result c.as_slice.result.now ∙ c.as_slice.ensures in
    subst (λ (l : List Labels). AreSame l c.add.new.self) is c.in_ok-add.ensures
