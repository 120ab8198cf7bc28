use Rattle.std.proofs.Common.{◌≡◌, false, length}
use Rattle.lf_lex.specs.reading.Runs.{units, duration_order}
use Rattle.lf_lex.proofs.Units.{order_so_far}
use Rattle.lf_lex.proofs.run.duration_order.Given as goal

abbrev pub invariant-loop-rest : goal.invariant-loop-rest
invariant-loop-rest l = order_so_far l.ordered l.least (units false l.rest) ≡ duration_order l.run

abbrev pub decreases-loop-rest : goal.decreases-loop-rest
decreases-loop-rest l = length l.rest
