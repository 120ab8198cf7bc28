use Rattle.std.proofs.Common.{List, subst}
use Rattle.lf_ast.specs.Labels.{Bytes}
use Rattle.lf_deps.specs.views.Search.{Grows, chosen_all}
use Rattle.lf_deps.specs.views.Sources.{Sources}
use Rattle.lf_deps.proofs.Followed.{search_begins}
use Rattle.lf_deps.proofs.LookedUp.{chosen_from, chosen_to}
use Rattle.lf_deps.proofs.searching.names_read.Goals as goal

pub returns : goal.returns
returns c rules is =
    let s : Sources = c.args.sources.now in
    let start = c.args.start.now in
    let P : List Bytes → Type 0 = λ l. Grows (chosen_all s.names start) l c.add_all.new.self.texts in
    c.in_ok-follow_all.ensures rules start is (search_begins rules start (chosen_all s.names start) c.add_all.new.self.texts (subst P c.new-names.ensures.texts c.in_ok-add_all.ensures.grows) (chosen_to rules s is start) (chosen_from rules s is start))
