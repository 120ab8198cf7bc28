use Rattle.std.proofs.Common.{◌≡◌, map, take}
use Rattle.lf_trials.specs.Given.{with_text}
use Rattle.lf_uniform.proofs.series.under_names.Given as goal

abbrev pub invariant-loop-place : goal.invariant-loop-place
invariant-loop-place l = l.series ≡ map (λ name. with_text l.label name l.labels) (take l.place l.names)
