use Rattle.std.proofs.Common.{◌≡◌, [], map, take}
use Rattle.lf_laws.specs.Gaining.{OfSome}
use Rattle.lf_ast.specs.Tree.{Tree, parts_of}
use Rattle.lf_ast.specs.views.Walks.{trees_at}
use Rattle.lf_semantics.specs.RowTable.{Environment, row_of}
use Rattle.lf_checks.specs.views.Adding.{Adds}
use Rattle.lf_checks.specs.views.Sought.{IsOfPart}
use Rattle.lf_checks.proofs.match_label.judge_parts.Given as goal

abbrev pub invariant-loop-k : goal.invariant-loop-k
invariant-loop-k l =
    (env : Environment) → l.rows ≡ map (λ (x : Tree). map (row_of l.universe env) (parts_of x)) (trees_at l.parts)
    → Adds (OfSome (IsOfPart l.universe env) (take l.k (trees_at l.parts))) [] l.found.items
