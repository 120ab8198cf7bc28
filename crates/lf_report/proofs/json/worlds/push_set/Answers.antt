use Rattle.lf_report.specs.Json.{set_data}
use Rattle.lf_report.proofs.Floats.{set_floats}
use Rattle.lf_report.proofs.json.worlds.push_set.Goals as goal

pub returns : goal.returns
returns c = c.push_value.ensures (set_data c.args.set.now) c.in_ok-value.ensures (set_floats c.args.set.now)
