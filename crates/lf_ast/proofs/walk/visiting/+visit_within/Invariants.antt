use Rattle.std.proofs.Common.{◌≡◌, length}
use Rattle.lf_ast.specs.Tree.{parts_of, tree}
use Rattle.lf_ast.specs.views.Walks.{chosen}
use Rattle.lf_ast.proofs.Visiting.{gone_on}
use Rattle.lf_ast.proofs.walk.visiting.+visit_within.Given as goal

abbrev pub invariant-parts : goal.invariant-parts
invariant-parts g l =
    let V = g.V.Visitor in
    V.behind (gone_on V.visited V.between V.behind l.begun (tree l.expr) (chosen l.rest (parts_of (tree l.expr))) l.visitor) (tree l.expr) ≡ V.visited l.fn.visitor (tree l.expr)

abbrev pub decreases-parts : goal.decreases-parts
decreases-parts g l = length (chosen l.rest (parts_of (tree l.expr)))

abbrev pub decreases-visit_within : goal.decreases-visit_within
decreases-visit_within g l = l.calls
