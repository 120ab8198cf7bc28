use Rattle.std.proofs.Common.{◌≡◌, ◌+◌, ◌≤◌, drop}
use Rattle.lf_accept.specs.Sizes.{class_count}
use Rattle.lf_accept.proofs.Counts.{classes_behind}
use Rattle.lf_accept.proofs.sizes.class_count.Given as goal

abbrev pub invariant-loop-byte : goal.invariant-loop-byte
invariant-loop-byte l = record { counted : l.count + classes_behind l.slash (drop l.byte-index l.pattern) ≡ class_count l.pattern; few : l.count ≤ l.byte-index }
