use Rattle.std.proofs.Common.{◌≡◌, ◌-◌, ◌^◌, min, take}
use Rattle.std.specs.List.{sum_by}
use Rattle.lf_worlds.specs.views.AtMost.{most_by}
use Rattle.lf_worlds.proofs.at_most.most_by_all.Given as goal

abbrev pub invariant-loop-selector : goal.invariant-loop-selector
invariant-loop-selector l = l.all ≡ min (sum_by (most_by l.sources l.each) (take l.selector-index l.selected)) (2 ^ 64 - 1)
