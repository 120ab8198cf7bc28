use Rattle.std.proofs.Common.{◌≡◌, map, take}
use Rattle.std.specs.List.{flat_map}
use Rattle.lf_deps.specs.views.Links.{source_of}
use Rattle.lf_deps.proofs.links.waited_by_each.Given as goal

abbrev pub invariant-loop-found : goal.invariant-loop-found
invariant-loop-found l = l.all ≡ map (λ found. flat_map (source_of l.names) found) (take l.found-index l.selected)
