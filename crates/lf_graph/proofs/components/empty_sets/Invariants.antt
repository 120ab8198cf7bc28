use Rattle.std.proofs.Common.{◌≡◌, [], map, replicate}
use Rattle.lf_graph.proofs.components.empty_sets.Given as goal

abbrev pub invariant-loop-k : goal.invariant-loop-k
invariant-loop-k l = map (λ t. t.keys) l.sets.items ≡ replicate l._k []
