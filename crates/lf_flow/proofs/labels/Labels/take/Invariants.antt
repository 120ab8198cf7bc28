use Rattle.std.proofs.Common.{◌≡◌, false, get_or}
use Rattle.lf_semantics.specs.ClassRows.{holds, replaced}
use Rattle.lf_flow.proofs.Below.{below}
use Rattle.lf_flow.proofs.labels.Labels.take.Given as goal

abbrev pub invariant-loop-label : goal.invariant-loop-label
invariant-loop-label l = l.row ≡ replaced (below (λ m. get_or l.self m false) l.label) (holds l.other) l.fn.row
