use Rattle.std.proofs.Common.{◌∙◌}
use Rattle.lf_built.proofs.RowsApart.{image_moved}
use Rattle.lf_judge.proofs.FoundTogether.{findings_read, row_read}
use Rattle.lf_judge.proofs.rule_read.apart.Goals as goal

pub loop-rule-preserved : goal.loop-rule-preserved
loop-rule-preserved c = record {
  rows = c.loop-rule.invariant.rows ∙ image_moved row_read _ _ c.in-Some.rule _ _ c.in-Some.ensures.some c.in_ok-push.ensures.items;
  findings = c.loop-rule.invariant.findings ∙ image_moved findings_read _ _ c.in-Some.rule _ _ c.in-Some.ensures.some c.in_ok-push-2.ensures.items;
}
