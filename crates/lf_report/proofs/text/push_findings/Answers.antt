use Rattle.lf_report.proofs.Lines.{findings_more}
use Rattle.lf_report.proofs.text.push_findings.Goals as goal

pub loop-finding-preserved : goal.loop-finding-preserved
loop-finding-preserved c = λ it e.
    findings_more it c.args.findings.now c.loop-finding.finding-index c.finding-item.result c.args.text.now c.loop-finding.text _ c.loop-finding-test.true c.finding-item.is
    (c.loop-finding.invariant it e) (c.in_ok-push_finding.ensures it e)
