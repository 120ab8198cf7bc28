use Rattle.std.proofs.Common.{◌≡◌, take}
use Rattle.lf_witness.specs.Strict.{last_buckets}
use Rattle.lf_strict.proofs.buckets.last_buckets.Given as goal

abbrev pub invariant-loop-sample : goal.invariant-loop-sample
invariant-loop-sample l = l.last.items ≡ last_buckets (take l.sample-index l.samples)
