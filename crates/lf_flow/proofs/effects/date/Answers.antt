use Rattle.std.proofs.Common.{◌≡◌, ◌<◌, List, [], ◌∷◌, length, refl, ◌∙◌, arith}
use Rattle.lf_ast.specs.Tree.{trees}
use Rattle.lf_ast.specs.declared.expr.Expr.{Expr}
use Rattle.lf_semantics.specs.ClassRows.{Sets}
use Rattle.lf_semantics.specs.Listing.{Listing}
use Rattle.lf_semantics.specs.RowTable.{date_row, nameless}
use Rattle.lf_flow.proofs.effects.date.Goals as goal

some_argument : (u : Listing) (args : List Expr) (row : Sets) → 0 < length args → nameless u row ≡ date_row u (trees args) row
some_argument u [] row h = absurd (omega arith)
some_argument u (e ∷ args) row h = refl

pub returns-in-len1-up : goal.returns-in-len1-up
returns-in-len1-up c = c.nameless.ensures ∙ some_argument c.args.universe.now c.args.args.now c.args.row (omega (arith, c.in-len1-up.len_at_least))
