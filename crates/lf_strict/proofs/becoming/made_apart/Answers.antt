use Rattle.std.proofs.Common.{List, sym, ◌∙◌, subst}
use Rattle.std.specs.List.{AllZip}
use Rattle.lf_ast.specs.Labels.{Labels}
use Rattle.lf_strict.proofs.MadeApart.{made_apart, only_apart}
use Rattle.lf_strict.proofs.becoming.made_apart.Goals as goal

pub returns-then-len-eq1 : goal.returns-then-len-eq1
returns-then-len-eq1 g c =
    let becomes = g.B.Becoming.becomes c.args.how.now in
    only_apart becomes (g.met.B.Becoming.one c.args.how.now) c.args.samples c.in_ok-only_made.field-0 (sym c.len.ensures ∙ c.if-len-eq1.true) c.requires c.in_ok-only_made.ensures

pub returns : goal.returns
returns g c =
    let becomes = g.B.Becoming.becomes c.args.how.now in
    let each = subst (λ (l : List Labels). AllZip becomes l c.in_ok-made.made.items) c.in_ok-listed.ensures c.in_ok-made.ensures in
    made_apart becomes (g.met.B.Becoming.one c.args.how.now) c.args.samples c.in_ok-made.made.items c.requires each c.apart.result c.apart.ensures
