use Rattle.std.proofs.Common.{◌≡◌, ◌++◌, take}
use Rattle.lf_strict.proofs.signature.push_each.Given as goal

abbrev pub invariant-loop-sample : goal.invariant-loop-sample
invariant-loop-sample l = l.all.items ≡ l.initial.all.items ++ take l.sample-index l.samples
