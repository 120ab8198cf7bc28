use Rattle.std.proofs.Common.{◌≡◌, map, take}
use Rattle.serde_json.specs.View.{view}
use Rattle.lf_report.specs.Json.{count_data}
use Rattle.lf_report.proofs.json.worlds.steps_value.Given as goal

abbrev pub invariant-loop-step : goal.invariant-loop-step
invariant-loop-step l = map view l.values.items ≡ map count_data (take l.step-index l.steps)
