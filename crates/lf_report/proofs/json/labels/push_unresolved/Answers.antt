use Rattle.std.proofs.Common.{refl}
use Rattle.lf_report.specs.Json.{unresolved_data}
use Rattle.lf_report.proofs.json.labels.push_unresolved.Goals as goal

pub returns : goal.returns
returns c = c.push_value.ensures (unresolved_data c.args.label.now c.args.construct c.args.place.now) c.in_ok-value.ensures refl
