use Rattle.std.proofs.Common.{◌≡◌, take}
use Rattle.std.specs.List.{flat_map}
use Rattle.lf_flow.specs.views.Reading.{numbers_selected}
use Rattle.lf_flow.proofs.reading.numbers_selected.Given as goal

abbrev pub invariant-loop-selector : goal.invariant-loop-selector
invariant-loop-selector l = l.numbers ≡ flat_map (numbers_selected l.recorded) (take l.selector-index l.found)
