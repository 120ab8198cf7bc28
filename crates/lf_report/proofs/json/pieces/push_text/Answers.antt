use Rattle.std.proofs.Common.{refl}
use Rattle.std.proofs.lemmas.Result.{on_ok_weaker}
use Rattle.serde_json.specs.Data.{string}
use Rattle.serde_json.specs.Written.{compact_text}
use Rattle.lf_report.proofs.Appends.{appended_two}
use Rattle.lf_report.proofs.json.pieces.push_text.Goals as goal

pub returns : goal.returns
returns c =
    let said = string c.args.of.now in
    on_ok_weaker c.push_value.result (λ e. appended_two c.args.text.now c.args.before.now (compact_text said) c.in_ok-push.ensures.ok e)
    (c.push_value.ensures said c.in_ok-value.ensures refl)
