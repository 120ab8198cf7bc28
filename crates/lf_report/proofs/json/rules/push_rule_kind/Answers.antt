use Rattle.std.proofs.Common.{codes}
use Rattle.std.proofs.lemmas.Result.{on_ok_weaker}
use Rattle.serde_json.specs.Data.{string}
use Rattle.serde_json.specs.Written.{compact_text}
use Rattle.lf_report.proofs.Appends.{appended_pair}
use Rattle.lf_report.proofs.json.rules.push_rule_kind.Goals as goal

pub returns : goal.returns
returns c =
    on_ok_weaker c.push.result (λ e. appended_pair c.args.text.now (codes "],\"kind\":") (compact_text (string c.args.kind.now)) (codes ",\"labels\":") c.in_ok-push_text.ensures e) c.push.ensures.ok
