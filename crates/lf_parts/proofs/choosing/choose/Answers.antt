use Rattle.std.proofs.Common.{◌≡◌, List, ap, drop, map, sym, take, ◌∙◌, subst}
use Rattle.std.specs.Prelude.{IfOk}
use Rattle.std.proofs.lemmas.List.{drop-map, take-map}
use Rattle.lf_ast.specs.declared.walk.choosing.Parts.{Parts}
use Rattle.lf_ast.specs.views.Walks.{chosen}
use Rattle.lf_parts.proofs.choosing.choose.Goals as goal

pub returns-in-From : goal.returns-in-From
returns-in-From g c = λ value all is.
    let place = c.in-From.place in
    let P : List g.row.T.Denot → Type 0 = λ l. IfOk c.from.result (λ found. found.items ≡ l) in
    subst P (ap (drop place) is ∙ drop-map value place all ∙ ap (λ (p : Parts). map value (chosen p all)) (sym c.in-From.is)) c.from.ensures

pub returns-in-Only : goal.returns-in-Only
returns-in-Only g c = λ value all is.
    let place = c.in-Only.place in
    let P : List g.row.T.Denot → Type 0 = λ l. IfOk c.only.result (λ found. found.items ≡ l) in
    subst P (ap (λ l. take 1 (drop place l)) is ∙ ap (take 1) (drop-map value place all) ∙ take-map value 1 (drop place all) ∙ ap (λ (p : Parts). map value (chosen p all)) (sym c.in-Only.is)) c.only.ensures
