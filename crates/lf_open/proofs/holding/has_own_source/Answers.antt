use Rattle.std.proofs.Common.{List, ◌∙◌, ap}
use Rattle.std.specs.Borrow.{Bor}
use Rattle.std.specs.List.{list_any}
use Rattle.lf_ast.specs.Tree.{tree}
use Rattle.lf_ast.specs.declared.expr.Expr.{Expr}
use Rattle.lf_ast.specs.views.Walks.{trees_at}
use Rattle.lf_open.specs.Holding.{is_source}
use Rattle.lf_open.proofs.Held.{any_trees, same_any, source_speaks}
use Rattle.lf_open.proofs.holding.has_own_source.Goals as goal

pub returns : goal.returns
returns c =
    c.any_source.ensures ∙ ap (λ (l : List (Bor Expr)). list_any (λ (p : Bor Expr). is_source (tree p.now)) l) c.as_slice.ensures.value ∙ any_trees is_source c.in_ok-parts.parts.items
    ∙ same_any is_source source_speaks (tree c.args.expr.now) (trees_at c.in_ok-parts.parts.items) c.in_ok-parts.ensures
