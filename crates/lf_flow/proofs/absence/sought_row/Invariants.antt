use Rattle.std.proofs.Common.{◌≡◌}
use Rattle.lf_flow.proofs.MadeRows.{made}
use Rattle.lf_flow.proofs.SoughtSets.{certain_below}
use Rattle.lf_flow.proofs.absence.sought_row.Given as goal

abbrev pub invariant-loop-label : goal.invariant-loop-label
invariant-loop-label l = l.row ≡ made l.universe (certain_below l.universe l.matchers l.label)
