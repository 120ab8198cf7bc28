use Rattle.std.proofs.Common.{◌≡◌, map, take}
use Rattle.lf_candidates.specs.views.Packed.{packed}
use Rattle.lf_built.proofs.part_rows.packed_rows.Given as goal

abbrev pub invariant-loop-row : goal.invariant-loop-row
invariant-loop-row l = l.kept.items ≡ map (packed l.universe) (take l.row-index l.rows)
