use Rattle.std.proofs.Common.{◌≡◌, map}
use Rattle.lf_open.specs.views.InOrder.{keyed}
use Rattle.lf_open.proofs.ordering.with_keys.Given as goal

abbrev pub invariant-loop-item : goal.invariant-loop-item
invariant-loop-item l = l.all.items ≡ map keyed l.yielded
