use Rattle.std.proofs.Common.{◌∷◌, [], List, OnOk, sym, ◌∙◌, ap, subst}
use Rattle.std.proofs.lemmas.Result.{on_ok_weaker}
use Rattle.lf_ast.specs.Labels.{Bytes}
use Rattle.lf_deps.specs.views.Search.{Grows, HasAll, chosen}
use Rattle.lf_deps.proofs.Followed.{kept_in}
use Rattle.lf_deps.proofs.searching.FoundNames.add.Goals as goal

pub returns-in-Some-clause-grows : goal.returns-in-Some-clause-grows
returns-in-Some-clause-grows c =
    let P : List Bytes → Type 0 = λ l. OnOk c.add_text.result (Grows l c.args.self.now.texts c.add_text.new.texts) in
    subst P (sym (ap (chosen c.args.sources.now.names) c.in-Some.is)) c.add_text.ensures

pub returns-in-Some-clause-all : goal.returns-in-Some-clause-all
returns-in-Some-clause-all c =
    let name : List Bytes = c.in-Some.name ∷ [] in
    let old : List Bytes = c.args.self.now.texts in
    let new : List Bytes = c.add_text.new.texts in
    on_ok_weaker {P = Grows name old new} {Q = HasAll c.args.sources.now.names c.args.self.now.all new} c.add_text.result (λ g all n there. kept_in name old new g n (c.requires.all all n there)) c.add_text.ensures

pub returns-in-None-clause-grows : goal.returns-in-None-clause-grows
returns-in-None-clause-grows c =
    let P : List Bytes → Type 0 = λ l. OnOk c.add_recorded.result (Grows l c.args.self.now.texts c.add_recorded.new.self.texts) in
    subst P (c.recorded.ensures ∙ sym (ap (chosen c.args.sources.now.names) c.in-None.is)) c.add_recorded.ensures.grows
