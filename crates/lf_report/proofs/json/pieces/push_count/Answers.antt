use Rattle.std.proofs.Common.{refl}
use Rattle.std.proofs.lemmas.Result.{on_ok_weaker}
use Rattle.serde_json.specs.Written.{compact_text}
use Rattle.lf_report.specs.Json.{count_data}
use Rattle.lf_report.proofs.Appends.{appended_two}
use Rattle.lf_report.proofs.json.pieces.push_count.Goals as goal

pub returns : goal.returns
returns c =
    let said = count_data c.args.count in
    on_ok_weaker c.push_value.result (λ e. appended_two c.args.text.now c.args.before.now (compact_text said) c.in_ok-push.ensures.ok e)
    (c.push_value.ensures said c.from.ensures refl)
