use Rattle.std.proofs.Common.{◌≡◌, List, Some, sym, subst}
use Rattle.std.specs.Prelude.{IfOk}
use Rattle.lf_ast.specs.Functions.{aggregation, called_by}
use Rattle.lf_ast.specs.Tree.{Tree, trees}
use Rattle.lf_ast.specs.declared.expr.Expr.{Expr}
use Rattle.lf_ast.proofs.TreeOf.{tree_aggregate}
use Rattle.lf_built.specs.views.Marking.{call_lost, lost_at}
use Rattle.lf_built.proofs.marking.lost_by.Goals as goal

pub returns-in-Aggregate : goal.returns-in-Aggregate
returns-in-Aggregate c =
    let names = c.args.names.now in
    let own = c.in-Aggregate in
    let made = c.lost_by_call-in-Aggregate.result in
    let is = tree_aggregate c.args.expr.now own.op own.grouping own.args own.span own.is in
    let called = subst (λ (t : Tree). IfOk made (λ marks. marks ≡ call_lost names (called_by t) own.grouping (trees c.as_slice-in-Aggregate.result.now))) is c.lost_by_call-in-Aggregate.ensures in
    let listed = subst (λ (xs : List Expr). IfOk made (λ marks. marks ≡ call_lost names (Some (aggregation own.op)) own.grouping (trees xs))) c.as_slice-in-Aggregate.ensures called in
    subst (λ (t : Tree). IfOk made (λ marks. marks ≡ lost_at names t)) (sym is) listed
