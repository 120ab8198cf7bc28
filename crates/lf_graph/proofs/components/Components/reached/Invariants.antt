use Rattle.std.proofs.Common.{◌<◌, ℕ, List, length}
use Rattle.std.specs.List.{Contains}
use Rattle.lf_graph.specs.Components.{AreComponents}
use Rattle.lf_graph.proofs.Reaching.{IsFoundOrDue, height}
use Rattle.lf_graph.proofs.components.Components.reached.Given as goal

-- what is due is a component, and what is reached is found or reached from what is due
abbrev pub invariant-loop-number : goal.invariant-loop-number
invariant-loop-number l =
    ((k : ℕ) → Contains l.due.keys k → k < length l.self.members)
    × ((edges : List (List ℕ)) → AreComponents edges l.self → IsFoundOrDue edges l.self.numbers l.start l.found.items l.due.keys)

abbrev pub decreases-loop-number : goal.decreases-loop-number
decreases-loop-number l = height l.due.keys
