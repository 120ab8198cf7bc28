use Rattle.std.proofs.Common.{refl}
use Rattle.lf_report.specs.Json.{plain_data}
use Rattle.lf_report.proofs.json.labels.push_plain.Goals as goal

pub returns : goal.returns
returns c = c.push_value.ensures (plain_data c.args.label.now c.args.verdict.now) c.in_ok-value.ensures refl
