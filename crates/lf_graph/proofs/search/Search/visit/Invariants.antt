use Rattle.std.proofs.Common.{ℕ, []}
use Rattle.lf_graph.specs.views.Search.{IsMet, IsSearch, work}
use Rattle.lf_graph.proofs.search.Search.visit.Given as goal

abbrev pub invariant-loop-self : goal.invariant-loop-self
invariant-loop-self l = IsSearch l.edges l.self [] × IsMet l.self l.node × ((u : ℕ) → IsMet l.fn.self u → IsMet l.self u)

abbrev pub decreases-loop-self : goal.decreases-loop-self
decreases-loop-self l = work l.edges l.self
