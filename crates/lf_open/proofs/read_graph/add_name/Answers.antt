use Rattle.std.proofs.Common.{◌∷◌, [], List, Option, sym, ◌∙◌, ap, subst}
use Rattle.lf_ast.specs.Labels.{Bytes}
use Rattle.lf_classes.specs.views.TextSets.{with_text}
use Rattle.lf_deps.specs.views.Search.{Grows}
use Rattle.lf_deps.proofs.Followed.{grows_text}
use Rattle.lf_open.specs.views.ReadNames.{said_name}
use Rattle.lf_open.proofs.read_graph.add_name.Goals as goal

pub returns-in_ok-_place-in-Some : goal.returns-in_ok-_place-in-Some
returns-in_ok-_place-in-Some c =
    let old : List Bytes = c.args.names.now in
    let new : List Bytes = c.add.new.self in
    let name : Bytes = c.in-Some.name in
    subst (λ (o : Option Bytes). Grows (said_name o) old new) (sym c.in-Some.is)
    (subst (Grows (name ∷ []) old) (sym (c.in_ok-_place-in-Some.ensures.ok ∙ ap (with_text old) c.as_str.ensures)) (grows_text old name))
