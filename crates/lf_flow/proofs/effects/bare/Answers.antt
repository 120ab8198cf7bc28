use Rattle.std.proofs.Common.{sym, subst}
use Rattle.lf_semantics.specs.ClassRows.{HasShape, Sets}
use Rattle.lf_semantics.proofs.RowLaws.{shape_top}
use Rattle.lf_flow.proofs.effects.bare.Goals as goal

pub group-requires : goal.group-requires
group-requires c =
    let u = c.args.universe.now in
    let P : Sets → Type 0 = λ row. HasShape u row in
    record { shape = subst P (sym c.in_ok-row.ensures) (shape_top u) }
