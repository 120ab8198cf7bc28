-- What the arguments of a call tell, as a list.
use Rattle.std.proofs.Common.{◌≡◌, Bool, ◌||◌, map, refl, ap}
use Rattle.std.specs.List.{list_any}
use Rattle.lf_ast.specs.Tree.{Trees, Nil, Next, list}
use Rattle.lf_checks.specs.AlertComparison.{has_conditional}
use Rattle.lf_checks.specs.views.Conditions.{condition_of, counts}

-- an argument that counts is conditional
pub any_counts : (args : Trees) → list_any counts (map condition_of (list args)) ≡ has_conditional args
any_counts Nil = refl
any_counts (Next x xs) = ap (λ (b : Bool). counts (condition_of x) || b) (any_counts xs)
