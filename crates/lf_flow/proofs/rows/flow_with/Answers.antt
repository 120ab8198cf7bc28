use Rattle.std.proofs.Common.{sym, subst}
use Rattle.lf_ast.specs.Tree.{tree}
use Rattle.lf_semantics.specs.ClassRows.{Represents, Sets}
use Rattle.lf_semantics.specs.Laws.{GrowsFrom}
use Rattle.lf_semantics.proofs.Laws.{grows_from}
use Rattle.lf_semantics.proofs.Soundness.{sound}
use Rattle.lf_flow.proofs.rows.flow_with.Goals as goal

pub returns-clause-sound : goal.returns-clause-sound
returns-clause-sound c = λ S N R s covers admits w inside.
    let u = c.args.universe.now in
    let P : Sets → Type 0 = λ row. Represents u row s in
    subst P (sym c.in_ok-told.ensures) (sound u c.labels-labels.ensures.within.listing c.args.env.now c.requires.env S N admits (tree c.args.expr.now) covers R s w inside)

pub returns-clause-grows : goal.returns-clause-grows
returns-clause-grows c =
    let u = c.args.universe.now in
    let env = c.args.env.now in
    let e = tree c.args.expr.now in
    subst (GrowsFrom u env e) (sym c.in_ok-told.ensures) (grows_from u c.labels-labels.ensures.within.listing env c.requires.env e)
