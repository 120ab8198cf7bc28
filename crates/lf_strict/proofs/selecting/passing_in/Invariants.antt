use Rattle.std.proofs.Common.{◌≡◌, take}
use Rattle.std.specs.List.{filter}
use Rattle.lf_strict.specs.views.Selected.{passes_by}
use Rattle.lf_strict.proofs.selecting.passing_in.Given as goal

abbrev pub invariant-loop-sample : goal.invariant-loop-sample
invariant-loop-sample l = l.kept.items ≡ filter (passes_by l.matcher) (take l.sample-index l.samples)
