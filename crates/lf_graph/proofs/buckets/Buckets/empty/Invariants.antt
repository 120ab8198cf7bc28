use Rattle.std.proofs.Common.{◌≡◌, [], replicate}
use Rattle.lf_graph.proofs.buckets.Buckets.empty.Given as goal

abbrev pub invariant-loop-k : goal.invariant-loop-k
invariant-loop-k l = l.lists.items ≡ replicate l._k []
