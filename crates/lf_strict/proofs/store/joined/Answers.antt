use Rattle.std.proofs.Common.{◌++◌, List, ap₂, subst}
use Rattle.lf_ast.specs.Labels.{Labels}
use Rattle.lf_witness.specs.Strict.{AreSame}
use Rattle.lf_witness.proofs.SameSets.{chained}
use Rattle.lf_strict.proofs.store.joined.Goals as goal

pub returns-clause-same : goal.returns-clause-same
returns-clause-same c =
    let all : List Labels = c.in_ok-all.all.items in
    let more : List Labels = c.in_ok-more.more in
    let joined : List Labels = c.take_each.new.all.items in
    let same = chained (all ++ more) joined c.together.result c.in_ok-take_each.ensures c.together.ensures.same in
    subst (λ (l : List Labels). AreSame l c.together.result) (ap₂ (λ (x y : List Labels). x ++ y) c.in_ok-all.ensures c.in_ok-more.ensures) same
