use Rattle.std.proofs.Common.{◌∙◌}
use Rattle.lf_flow.specs.declared.typed_row.TypedRow.{TypedRow}
use Rattle.lf_flow.specs.views.Kept.{made_row}
use Rattle.lf_flow.proofs.PartRows.{one_back}
use Rattle.lf_flow.proofs.parts.into_rows.Goals as goal

pub loop-part-preserved : goal.loop-part-preserved
loop-part-preserved c =
    c.loop-part.invariant ∙ one_back (λ (typed : TypedRow). made_row c.args.universe.now typed.row) _ _ _ _ _ _ c.in-Some.ensures.items c.in_ok-into_row.ensures c.in_ok-push.ensures.items
