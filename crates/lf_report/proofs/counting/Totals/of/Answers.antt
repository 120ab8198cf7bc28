use Rattle.lf_report.proofs.Counted.{totals_more}
use Rattle.lf_report.proofs.counting.Totals.of.Goals as goal

pub loop-rule-preserved : goal.loop-rule-preserved
loop-rule-preserved c = totals_more c.args.rules.now c.loop-rule.rule-index c.rule-item.result c.loop-rule.totals _ c.loop-rule-test.true c.rule-item.is c.loop-rule.invariant c.in_ok-totals.ensures
