use Rattle.std.proofs.Common.{◌≡◌, nat_lt, take}
use Rattle.std.specs.List.{filter}
use Rattle.lf_deps.proofs.name_graph.below.Given as goal

abbrev pub invariant-loop-number : goal.invariant-loop-number
invariant-loop-number l = l.found ≡ filter (λ k. nat_lt k l.count) (take l.number-index l.numbers)
