use Rattle.std.proofs.Common.{◌≡◌, ◌-◌, drop, length}
use Rattle.lf_semantics.specs.Grouped.{taken_from}
use Rattle.lf_strict.proofs.pair_labels.take_labels.Given as goal

abbrev pub invariant-loop-k : goal.invariant-loop-k
invariant-loop-k l = l.made ≡ taken_from l.one (drop (length l.names - l.k) l.names) l.initial.made
