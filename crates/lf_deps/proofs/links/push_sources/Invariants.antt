use Rattle.std.proofs.Common.{◌≡◌, ◌++◌, take}
use Rattle.std.specs.List.{flat_map}
use Rattle.lf_deps.specs.views.Links.{source_of}
use Rattle.lf_deps.proofs.links.push_sources.Given as goal

abbrev pub invariant-loop-selector : goal.invariant-loop-selector
invariant-loop-selector l = l.sources ≡ l.fn.sources ++ flat_map (source_of l.names) (take l.selector-index l.found)
