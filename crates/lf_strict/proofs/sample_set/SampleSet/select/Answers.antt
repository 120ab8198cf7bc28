use Rattle.std.proofs.Common.{List, sym, ◌∙◌, ap, subst}
use Rattle.std.proofs.lemmas.Result.{IfOk-weaker}
use Rattle.lf_ast.specs.Labels.{Labels}
use Rattle.lf_witness.specs.Ascending.{IsAscending}
use Rattle.lf_witness.specs.Strict.{AreSelected}
use Rattle.lf_strict.specs.views.Selected.{passing}
use Rattle.lf_strict.proofs.Selected.{are_selected}
use Rattle.lf_strict.proofs.sample_set.SampleSet.select.Goals as goal

pub returns : goal.returns
returns c =
    let W : List Labels = c.args.self.now in
    let name = c.args.name.now in
    let ms = c.args.matchers.now in
    IfOk-weaker c.passing_each.result _ _
    (λ R is. subst (λ (l : List Labels). AreSelected W name ms l × IsAscending l) (sym (is ∙ ap (passing ms) (c.from_vec.ensures ∙ c.in_ok-kept.ensures.kept))) (are_selected W name ms c.in_ok-kept.ensures.ascends))
    c.passing_each.ensures
