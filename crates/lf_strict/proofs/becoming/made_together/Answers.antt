use Rattle.std.proofs.Common.{List, sym, ◌∙◌, subst}
use Rattle.std.specs.List.{AllZip}
use Rattle.std.proofs.lemmas.Result.{IfOk-weaker}
use Rattle.lf_ast.specs.Labels.{Labels}
use Rattle.lf_strict.proofs.MadeApart.{made_together, only_together}
use Rattle.lf_strict.proofs.becoming.made_together.Goals as goal

pub returns-then-len-eq1 : goal.returns-then-len-eq1
returns-then-len-eq1 g c =
    let becomes = g.B.Becoming.becomes c.args.how.now in
    IfOk-weaker c.only_made.result _ _ (λ made each. only_together becomes c.args.samples made (sym c.len.ensures ∙ c.if-len-eq1.true) each) c.only_made.ensures

pub returns : goal.returns
returns g c =
    let becomes = g.B.Becoming.becomes c.args.how.now in
    let each = subst (λ (l : List Labels). AllZip becomes l c.in_ok-made.made.items) c.in_ok-listed.ensures c.in_ok-made.ensures in
    made_together becomes c.args.samples c.in_ok-made.made.items c.together.result each c.together.ensures.same c.together.ensures.ascends
