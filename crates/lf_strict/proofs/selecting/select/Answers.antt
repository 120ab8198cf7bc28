use Rattle.std.proofs.Common.{List, sym, ◌∙◌, ap, subst}
use Rattle.std.specs.List.{filter}
use Rattle.std.proofs.lemmas.Result.{IfOk-weaker}
use Rattle.lf_ast.specs.Labels.{Labels}
use Rattle.lf_witness.specs.Ascending.{IsAscending}
use Rattle.lf_witness.specs.Strict.{AreSelected}
use Rattle.lf_strict.specs.views.Selected.{has_name, passing}
use Rattle.lf_strict.proofs.Selected.{are_selected}
use Rattle.lf_strict.proofs.selecting.select.Goals as goal

pub returns : goal.returns
returns c =
    let W : List Labels = c.args.stored in
    let name = c.args.name.now in
    let ms = c.args.matchers.now in
    let kept = c.from_vec.ensures ∙ c.only_named-kept.ensures ∙ ap (filter (has_name name)) c.in_ok-into_vec.ensures in
    IfOk-weaker c.passing_each.result _ _ (λ R is. subst (λ (l : List Labels). AreSelected W name ms l × IsAscending l) (sym (is ∙ ap (passing ms) kept)) (are_selected W name ms c.requires)) c.passing_each.ensures
