use Rattle.std.proofs.Common.{◌≡◌, ℕ, Option, ◌⊎◌, take}
use Rattle.std.specs.List.{AllByRecursion, Contains}
use Rattle.lf_ast.specs.Labels.{Bytes}
use Rattle.lf_fix.specs.views.Dependents.{IsFull, IsListed}
use Rattle.lf_fix.proofs.dependents.Dependents.list_all.Given as goal

abbrev pub invariant-loop-k : goal.invariant-loop-k
invariant-loop-k l =
    IsFull l.self
    × AllByRecursion (IsListed l.self l.rule) (take l.k l.found)
    × ((k : ℕ) (o : Option Bytes) → IsListed l.fn.self k o → IsListed l.self k o)
    × ((k : ℕ) (o : Option Bytes) → IsListed l.self k o → IsListed l.fn.self k o ⊎ ((k ≡ l.rule) × Contains (take l.k l.found) o))
