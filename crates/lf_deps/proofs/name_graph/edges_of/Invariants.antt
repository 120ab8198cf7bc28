use Rattle.std.proofs.Common.{◌≡◌, map}
use Rattle.std.specs.List.{range_with_len}
use Rattle.lf_deps.specs.views.Index.{makers_at}
use Rattle.lf_deps.specs.views.Names.{nodes_by}
use Rattle.lf_deps.proofs.name_graph.edges_of.Given as goal

abbrev pub invariant-loop-place : goal.invariant-loop-place
invariant-loop-place l = l.edges ≡ map (λ at. nodes_by l.names l.sources (makers_at l.sources at)) (range_with_len 0 l.place)
