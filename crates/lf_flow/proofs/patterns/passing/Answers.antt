use Rattle.std.proofs.Common.{sym, subst}
use Rattle.lf_semantics.specs.ClassRows.{HasShape}
use Rattle.lf_semantics.proofs.RowLaws.{shape_top}
use Rattle.lf_flow.proofs.patterns.passing.Goals as goal

pub narrow_label-requires-clause-shape : goal.narrow_label-requires-clause-shape
narrow_label-requires-clause-shape c = let u = c.args.universe.now in subst (HasShape u) (sym c.in_ok-row.ensures) (shape_top u)
