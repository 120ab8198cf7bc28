use Rattle.std.proofs.Common.{arith}
use Rattle.lf_report.specs.Json.{finding_data}
use Rattle.lf_report.proofs.Pieces.{mapped_more}
use Rattle.lf_report.proofs.json.rules.push_findings.Goals as goal

pub loop-k-preserved : goal.loop-k-preserved
loop-k-preserved c = λ it at.
    mapped_more (finding_data it) c.args.findings.now c.loop-k.k c.index-findings-k.result c.args.text.now (omega (arith, c.loop-k-test.true)) c.index-findings-k.is
    (c.loop-k.invariant it at) c.in_ok-push_comma.ensures (c.in_ok-push_finding.ensures it at)
