use Rattle.std.proofs.Common.{◌≡◌, ◌++◌, List, refl, ap, ap₂, ◌∙◌, subst}
use Rattle.lf_ast.specs.Labels.{Labels}
use Rattle.lf_witness.specs.Strict.{AreSame}
use Rattle.lf_strict.proofs.store.Store.in_order.Goals as goal

pub returns-clause-same : goal.returns-clause-same
returns-clause-same c =
    let append = λ (x y : List Labels). x ++ y in
    let others : List Labels = c.self.inside.others in
    let is : c.push_to.new.all.items ≡ c.args.self.now =
    c.in_ok-push_to.ensures ∙ ap (λ (l : List Labels). l ++ others) (c.in_ok-push_each-2.ensures ∙ ap₂ append (c.in_ok-push_each.ensures ∙ ap₂ append c.new-all.ensures.items refl) c.as_slice.ensures.value) ∙ c.self.view_is in
    subst (λ (l : List Labels). AreSame l c.together.result) is c.together.ensures.same
