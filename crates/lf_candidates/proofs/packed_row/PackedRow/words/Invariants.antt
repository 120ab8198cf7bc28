use Rattle.std.proofs.Common.{◌≡◌, take}
use Rattle.lf_candidates.specs.views.Packed.{unpacked}
use Rattle.lf_candidates.proofs.packed_row.PackedRow.words.Given as goal

abbrev pub invariant-loop-run : goal.invariant-loop-run
invariant-loop-run l = l.words.items ≡ unpacked (take l.run-index l.run-items)
