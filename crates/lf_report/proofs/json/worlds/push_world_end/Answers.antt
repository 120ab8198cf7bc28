use Rattle.std.proofs.Common.{◌++◌, codes, map}
use Rattle.std.proofs.lemmas.Result.{on_ok_weaker}
use Rattle.serde_json.specs.Written.{compact_text}
use Rattle.lf_report.specs.Json.{count_data, list_data}
use Rattle.lf_report.proofs.Appends.{appended_two}
use Rattle.lf_report.proofs.Floats.{steps_floats}
use Rattle.lf_report.proofs.json.worlds.push_world_end.Goals as goal

pub returns : goal.returns
returns c =
    let steps = list_data (map count_data c.args.steps.now) in
    let said = c.in_ok-push_value.ensures steps c.in_ok-value.ensures (steps_floats c.args.steps.now) in
    on_ok_weaker c.push-2.result
    (λ e. appended_two c.args.text.now (codes "],\"steps\":") (compact_text steps ++ codes "}") c.in_ok-push.ensures.ok (appended_two c.push.new.self (compact_text steps) (codes "}") said e))
    c.push-2.ensures.ok
