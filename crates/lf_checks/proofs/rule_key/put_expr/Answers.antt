use Rattle.std.proofs.Common.{◌≡◌, ◌++◌, List, [], ◌∷◌, refl, ap, ◌∙◌}
use Rattle.std.proofs.lemmas.List.{take_all}
use Rattle.std.specs.Borrow.{Bor}
use Rattle.std.specs.List.{flat_map}
use Rattle.std.specs.Prelude.{string_bytes}
use Rattle.lf_ast.specs.Tree.{Tree, tree}
use Rattle.lf_ast.specs.declared.expr.Expr.{Expr}
use Rattle.lf_ast.specs.views.Walks.{trees_at}
use Rattle.lf_checks.specs.views.Keys.{node_code}
use Rattle.lf_checks.proofs.rule_key.put_expr.Goals as goal

each_node : (items : List (Bor Expr)) → flat_map (λ x. node_code (tree x.now)) items ≡ flat_map node_code (trees_at items)
each_node [] = refl
each_node (x ∷ items) = ap (λ (l : List _). node_code (tree x.now) ++ l) (each_node items)

pub returns : goal.returns
returns c =
    let old = string_bytes c.args.key.now in
    let items = c.deref-node-items.result.now in
    c.loop-node.invariant
    ∙ ap (λ (l : List (Bor Expr)). old ++ flat_map (λ x. node_code (tree x.now)) l) (take_all c.loop-node.node-index items c.loop-node-test.false)
    ∙ ap (λ l. old ++ l) (each_node items)
    ∙ ap (λ (l : List (Bor Expr)). old ++ flat_map node_code (trees_at l)) c.deref-node-items.ensures.value
    ∙ ap (λ (l : List Tree). old ++ flat_map node_code l) c.in_ok-nodes.ensures
