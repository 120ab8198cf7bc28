use Rattle.std.proofs.Common.{List, Option, sym, subst}
use Rattle.lf_ast.specs.Tree.{nodes, tree}
use Rattle.lf_built.specs.declared.unsaid.SoughtName.{SoughtName}
use Rattle.lf_built.specs.views.Unsaid.{AreSought}
use Rattle.lf_built.proofs.Unnamed.{in_place, none_sought}
use Rattle.lf_built.proofs.unsaid.SoughtNames.of.Goals as goal

pub returns-in_ok-found : goal.returns-in_ok-found
returns-in_ok-found c = λ rules are. in_place c.args.universe.now rules (nodes (tree c.args.expr.now)) c.in_ok-found.found.items (c.in_ok-found.ensures rules are)

pub returns-else-selects_unnamed : goal.returns-else-selects_unnamed
returns-else-selects_unnamed c = λ rules are.
    subst (λ (found : List (Option SoughtName)). AreSought c.args.universe.now rules (nodes (tree c.args.expr.now)) found) (sym c.new-found.ensures.items) (none_sought c.args.universe.now rules (nodes (tree c.args.expr.now)))
