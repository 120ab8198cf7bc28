use Rattle.std.proofs.Common.{[], ◌∷◌, List, sym, ◌∙◌, ap, subst}
use Rattle.lf_ast.specs.Labels.{Bytes}
use Rattle.lf_classes.specs.views.TextSets.{with_text}
use Rattle.lf_deps.specs.views.Search.{Grows}
use Rattle.lf_deps.proofs.Followed.{grows_text}
use Rattle.lf_deps.proofs.searching.add_text.Goals as goal

pub returns : goal.returns
returns c =
    let P : List Bytes → Type 0 = λ l. Grows (c.args.name.now ∷ []) c.args.texts.now l in
    subst P (sym (c.in_ok-add.ensures.ok ∙ ap (with_text c.args.texts.now) c.as_str.ensures)) (grows_text c.args.texts.now c.args.name.now)
