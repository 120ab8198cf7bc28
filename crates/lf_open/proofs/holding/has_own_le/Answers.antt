use Rattle.std.proofs.Common.{List, ◌∙◌, ap}
use Rattle.std.specs.Borrow.{Bor}
use Rattle.std.specs.List.{list_any}
use Rattle.lf_ast.specs.Tree.{tree}
use Rattle.lf_ast.specs.declared.expr.Expr.{Expr}
use Rattle.lf_ast.specs.views.Walks.{trees_at}
use Rattle.lf_open.specs.Holding.{matches_le}
use Rattle.lf_open.proofs.Held.{any_trees, le_speaks, same_any}
use Rattle.lf_open.proofs.holding.has_own_le.Goals as goal

pub returns : goal.returns
returns c =
    c.any_matching_le.ensures ∙ ap (λ (l : List (Bor Expr)). list_any (λ (p : Bor Expr). matches_le (tree p.now)) l) c.as_slice.ensures.value ∙ any_trees matches_le c.in_ok-parts.parts.items
    ∙ same_any matches_le le_speaks (tree c.args.expr.now) (trees_at c.in_ok-parts.parts.items) c.in_ok-parts.ensures
