use Rattle.std.proofs.Common.{◌∷◌, [], ◌++◌, List, ap, sym, ◌∙◌, append_assoc}
use Rattle.std.proofs.lemmas.List.{map-append}
use Rattle.lf_ast.specs.Tree.{Tree, parts_of, tree}
use Rattle.lf_ast.specs.views.Walks.{trees_at}
use Rattle.lf_ast.proofs.Listing.{nodes_all, nodes_parts}
use Rattle.lf_ast.proofs.walk.listing.+put_nodes.Goals as goal

pub parts-init : goal.parts-init
parts-init t c =
    let x : Tree = tree c.args.expr.now in
    let old = c.args.found.now.items in
    ap (λ es. trees_at es ++ nodes_all (parts_of x)) c.in_ok-push.ensures.items
    ∙ ap (λ (ys : List Tree). ys ++ nodes_all (parts_of x)) (map-append (λ e. tree e.now) old (c.args.expr ∷ []))
    ∙ append_assoc (trees_at old) (x ∷ []) (nodes_all (parts_of x))
    ∙ ap (λ (ys : List Tree). trees_at old ++ ys) (sym (nodes_parts x))
