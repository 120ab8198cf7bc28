use Rattle.std.proofs.Common.{◌≡◌, IfOk, map, subst}
use Rattle.lf_ast.specs.Tree.{nodes, tree}
use Rattle.lf_forks.specs.views.Holding.{Forks, holds}
use Rattle.lf_forks.proofs.forks.Forks.are_in.Goals as goal

pub returns : goal.returns
returns c =
    let P : Forks → Type 0 = λ forks. IfOk c.hold_each.result (λ held. held.items ≡ map (holds forks.marks) (nodes (tree c.args.expr.now))) in
    subst P c.self.view_is c.hold_each.ensures
