use Rattle.std.proofs.Common.{codes}
use Rattle.std.proofs.lemmas.Result.{on_ok_weaker}
use Rattle.serde_json.specs.Data.{string}
use Rattle.serde_json.specs.Written.{compact_text}
use Rattle.lf_report.proofs.Appends.{appended_pair}
use Rattle.lf_report.proofs.json.labels.push_possible_head.Goals as goal

pub returns : goal.returns
returns c =
    on_ok_weaker c.push.result
    (λ e. appended_pair c.args.text.now (codes "{\"label\":") (compact_text (string c.args.label.now)) (codes ",\"verdict\":\"possible\",\"with\":") c.in_ok-push_text.ensures e)
    c.push.ensures.ok
