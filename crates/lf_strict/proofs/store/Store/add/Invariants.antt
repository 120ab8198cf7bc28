use Rattle.std.proofs.Common.{◌++◌, take}
use Rattle.lf_witness.specs.Strict.{AreSame}
use Rattle.lf_strict.proofs.store.Store.add.Given as goal

abbrev pub invariant-loop-sample : goal.invariant-loop-sample
invariant-loop-sample l = AreSame (l.initial.self ++ take l.sample-index l.samples) l.self
