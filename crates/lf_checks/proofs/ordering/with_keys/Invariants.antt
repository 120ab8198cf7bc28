use Rattle.std.proofs.Common.{◌≡◌, map}
use Rattle.lf_checks.specs.views.InOrder.{keyed}
use Rattle.lf_checks.proofs.ordering.with_keys.Given as goal

abbrev pub invariant-loop-finding : goal.invariant-loop-finding
invariant-loop-finding l = l.all.items ≡ map keyed l.yielded
