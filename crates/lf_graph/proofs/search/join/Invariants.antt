use Rattle.std.proofs.Common.{◌≤◌, ℕ, length}
use Rattle.std.specs.List.{Contains}
use Rattle.lf_laws.specs.Ascending.{AreAscending}
use Rattle.lf_graph.proofs.search.join.Given as goal

-- the parts up to the place are still there, and no others are new
abbrev pub invariant-loop-parts : goal.invariant-loop-parts
invariant-loop-parts l =
    AreAscending l.parts.items
    × ((b : ℕ) → Contains l.fn.parts.items b → b ≤ l.place → Contains l.parts.items b)
    × ((b : ℕ) → Contains l.parts.items b → Contains l.fn.parts.items b)
    × (length l.parts.items ≤ length l.fn.parts.items)

abbrev pub decreases-loop-parts : goal.decreases-loop-parts
decreases-loop-parts l = length l.parts.items
