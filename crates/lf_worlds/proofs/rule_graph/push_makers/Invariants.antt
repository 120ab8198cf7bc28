use Rattle.std.proofs.Common.{◌≡◌, ◌++◌, map, take}
use Rattle.lf_deps.specs.views.Index.{makers_of}
use Rattle.lf_worlds.proofs.rule_graph.push_makers.Given as goal

abbrev pub invariant-loop-place : goal.invariant-loop-place
invariant-loop-place l = l.edges ≡ l.fn.edges ++ map (makers_of l.sources) (take l.place l.names)
