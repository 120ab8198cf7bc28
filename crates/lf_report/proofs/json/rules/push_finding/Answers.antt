use Rattle.std.proofs.Common.{refl}
use Rattle.lf_report.specs.Json.{finding_data}
use Rattle.lf_report.proofs.json.rules.push_finding.Goals as goal

pub returns : goal.returns
returns c = λ it at. c.push_value.ensures (finding_data it c.args.finding.now) (c.in_ok-value.ensures it at) refl
