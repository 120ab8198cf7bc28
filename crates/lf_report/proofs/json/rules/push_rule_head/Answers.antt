use Rattle.std.proofs.Common.{◌++◌, codes, refl}
use Rattle.std.proofs.lemmas.Result.{on_ok_weaker}
use Rattle.serde_json.specs.Data.{boolean}
use Rattle.serde_json.specs.Written.{compact_text}
use Rattle.lf_report.specs.Json.{count_data}
use Rattle.lf_report.proofs.Appends.{appended_pair, appended_two}
use Rattle.lf_report.proofs.json.rules.push_rule_head.Goals as goal

pub returns : goal.returns
returns c =
    let column = compact_text (count_data c.args.position.column) in
    let empty = compact_text (boolean c.args.rule.now.empty) in
    let said = c.in_ok-push_value.ensures (boolean c.args.rule.now.empty) c.from.ensures refl in
    on_ok_weaker c.push-2.result
    (λ e. appended_pair c.args.text.now (codes "{\"column\":") column (codes ",\"empty\":" ++ (empty ++ codes ",\"findings\":[")) c.in_ok-push_count.ensures
    (appended_two c.push_count.new.text (codes ",\"empty\":") (empty ++ codes ",\"findings\":[") c.in_ok-push.ensures.ok (appended_two c.push.new.self empty (codes ",\"findings\":[") said e)))
    c.push-2.ensures.ok
