use Rattle.std.proofs.Common.{◌≡◌, false, get_or}
use Rattle.lf_semantics.specs.ClassRows.{holds, narrowed}
use Rattle.lf_flow.proofs.Below.{passing}
use Rattle.lf_flow.proofs.labels.Labels.meet.Given as goal

abbrev pub invariant-loop-label : goal.invariant-loop-label
invariant-loop-label l = l.row ≡ narrowed (passing (λ m. get_or l.self m false) (holds l.other) l.fn.row l.label) l.fn.row
