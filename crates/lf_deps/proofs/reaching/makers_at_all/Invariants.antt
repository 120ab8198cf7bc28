use Rattle.std.proofs.Common.{◌≡◌, take}
use Rattle.std.specs.List.{flat_map}
use Rattle.lf_deps.specs.views.Index.{makers_at}
use Rattle.lf_deps.proofs.reaching.makers_at_all.Given as goal

abbrev pub invariant-loop-place : goal.invariant-loop-place
invariant-loop-place l = l.found ≡ flat_map (makers_at l.sources) (take l.place-index l.places)
