use Rattle.std.proofs.Common.{◌<◌, ℕ, [], Option, get_or}
use Rattle.std.specs.List.{AllByRecursion, Contains}
use Rattle.lf_ast.specs.Labels.{Bytes}
use Rattle.lf_fix.specs.views.Dependents.{IsFull, IsListed}
use Rattle.lf_fix.proofs.dependents.Dependents.of.Given as goal

abbrev pub invariant-loop-k : goal.invariant-loop-k
invariant-loop-k l =
    IsFull l.dependents
    × ((j : ℕ) → j < l.k → AllByRecursion (IsListed l.dependents j) (get_or l.sources.selected j []))
    × ((j : ℕ) (o : Option Bytes) → IsListed l.dependents j o → Contains (get_or l.sources.selected j []) o)
