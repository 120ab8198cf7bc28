use Rattle.std.proofs.Common.{◌≡◌, false, not, get_or}
use Rattle.lf_semantics.specs.ClassRows.{only_empty}
use Rattle.lf_flow.proofs.Below.{below}
use Rattle.lf_flow.proofs.labels.Labels.drop_others.Given as goal

abbrev pub invariant-loop-label : goal.invariant-loop-label
invariant-loop-label l = l.row ≡ only_empty (below (λ m. not (get_or l.self m false)) l.label) l.fn.row
