use Rattle.std.proofs.Common.{◌≡◌, ◌+◌, ◌≤◌, ◌++◌}
use Rattle.std.specs.Vec.{vec_len, vec_capacity}
use Rattle.lf_scalar.specs.views.Ascending.{offsets_from}
use Rattle.lf_scalar.proofs.builder.push_offsets.Given as goal

abbrev pub invariant-loop-i : goal.invariant-loop-i
invariant-loop-i l = record { items : l.from.items ≡ l.fn.from.items ++ offsets_from l.at l.i; room : vec_len l.from + l.count ≤ vec_capacity l.from + l.i }
