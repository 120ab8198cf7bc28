use Rattle.std.proofs.Common.{◌≡◌, ◌<◌, ℕ, []}
use Rattle.lf_graph.specs.views.Search.{IsMet, IsSearch}
use Rattle.lf_graph.proofs.numbering.number_all.Given as goal

abbrev pub invariant-loop-node : goal.invariant-loop-node
invariant-loop-node l = IsSearch l.edges l.search [] × (l.search.parts.items ≡ []) × ((u : ℕ) → u < l.node → IsMet l.search u)
