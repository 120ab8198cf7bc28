use Rattle.std.proofs.Common.{◌≡◌, Option, Some, sym, ◌∙◌, ap, subst}
use Rattle.std.specs.Prelude.{IfOk}
use Rattle.lf_semantics.specs.Parts.{Sought}
use Rattle.lf_semantics.specs.RowTable.{absent_row}
use Rattle.lf_flow.proofs.absence.absent.Goals as goal

pub returns-in-Some : goal.returns-in-Some
returns-in-Some c =
    subst (λ (sought : Option Sought). IfOk c.sought_row.result (λ row. row ≡ absent_row c.args.universe.now sought))
    (ap (λ (s : Sought). Some s) c.sought.view_is ∙ (sym c.in-Some.is ∙ c.sought_in.ensures)) c.sought_row.ensures
