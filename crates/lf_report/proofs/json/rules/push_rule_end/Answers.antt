use Rattle.std.proofs.Common.{◌++◌, codes, ap, ◌∙◌}
use Rattle.std.proofs.lemmas.Result.{on_ok_weaker}
use Rattle.serde_json.specs.Data.{string}
use Rattle.serde_json.specs.Written.{compact_text}
use Rattle.lf_report.specs.Json.{count_data}
use Rattle.lf_report.proofs.Appends.{appended_pair}
use Rattle.lf_report.proofs.json.rules.push_rule_end.Goals as goal

pub returns : goal.returns
returns c =
    let line = compact_text (count_data c.args.position.line) in
    let name = compact_text (string c.args.rule.now.name) in
    let said = c.in_ok-push_text.ensures ∙ ap (λ l. c.push_count.new.text ++ (codes ",\"name\":" ++ compact_text (string l))) c.as_str.ensures in
    on_ok_weaker c.push.result
    (λ e. appended_pair c.args.text.now (codes ",\"line\":") line (codes ",\"name\":" ++ (name ++ codes "}")) c.in_ok-push_count.ensures
    (appended_pair c.push_count.new.text (codes ",\"name\":") name (codes "}") said e))
    c.push.ensures.ok
