use Rattle.std.proofs.Common.{◌≡◌, ◌++◌, length, map}
use Rattle.lf_ast.specs.Tree.{parts_of, tree}
use Rattle.lf_ast.specs.views.Walks.{chosen}
use Rattle.lf_ast.proofs.walk.folding.+fold_within.Given as goal

abbrev pub invariant-parts : goal.invariant-parts
invariant-parts g l =
    let value = g.F.Fold.value l.fold in
    l.values.items ++ map value (chosen l.rest (parts_of (tree l.expr))) ≡ map value (chosen (g.F.Fold.needed l.fold (tree l.expr)) (parts_of (tree l.expr)))

abbrev pub decreases-parts : goal.decreases-parts
decreases-parts g l = length (chosen l.rest (parts_of (tree l.expr)))

abbrev pub decreases-fold_within : goal.decreases-fold_within
decreases-fold_within g l = l.calls
