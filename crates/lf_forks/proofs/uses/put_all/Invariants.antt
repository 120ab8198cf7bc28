use Rattle.std.proofs.Common.{true, take}
use Rattle.std.specs.List.{flat_map}
use Rattle.lf_deps.specs.views.Links.{source_of}
use Rattle.lf_forks.specs.views.Uses.{Puts}
use Rattle.lf_forks.proofs.uses.put_all.Given as goal

abbrev pub invariant-loop-selector : goal.invariant-loop-selector
invariant-loop-selector l = Puts true (flat_map (source_of l.names) (take l.selector-index l.selected)) l.place l.fn.uses l.uses
