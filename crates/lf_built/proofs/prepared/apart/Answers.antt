use Rattle.std.proofs.Common.{◌∙◌}
use Rattle.lf_built.specs.declared.row_making.RuleRow.{RuleRow}
use Rattle.lf_built.proofs.RowsApart.{image_moved}
use Rattle.lf_built.proofs.prepared.apart.Goals as goal

pub loop-row-preserved : goal.loop-row-preserved
loop-row-preserved c = record {
  parts = c.loop-row.invariant.parts ∙ image_moved (λ (row : RuleRow). row.parts) _ _ c.in-Some.row _ _ c.in-Some.ensures.some c.in_ok-push.ensures.items;
  sought = c.loop-row.invariant.sought ∙ image_moved (λ (row : RuleRow). row.names) _ _ c.in-Some.row _ _ c.in-Some.ensures.some c.in_ok-push-2.ensures.items;
  own = c.loop-row.invariant.own ∙ image_moved (λ (row : RuleRow). row.own) _ _ c.in-Some.row _ _ c.in-Some.ensures.some c.in_ok-push-3.ensures.items;
  recorded = c.loop-row.invariant.recorded ∙ image_moved (λ (row : RuleRow). row.recorded) _ _ c.in-Some.row _ _ c.in-Some.ensures.some c.in_ok-push-4.ensures.items;
}
