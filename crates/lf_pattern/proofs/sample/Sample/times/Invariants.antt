use Rattle.std.proofs.Common.{◌≡◌}
use Rattle.lf_pattern.specs.ShapeScan.{times_of}
use Rattle.lf_pattern.proofs.sample.Sample.times.Given as goal

abbrev pub invariant-loop : goal.invariant-loop
invariant-loop l = l.all ≡ times_of l.counter l.self
