use Rattle.std.proofs.Common.{◌≡◌, ◌++◌, take}
use Rattle.std.specs.List.{filter}
use Rattle.lf_strict.specs.views.Selected.{has_name}
use Rattle.lf_strict.proofs.selecting.with_named.Given as goal

abbrev pub invariant-loop-sample : goal.invariant-loop-sample
invariant-loop-sample l = l.kept ≡ l.initial.kept ++ filter (has_name l.name) (take l.sample-index l.samples)
