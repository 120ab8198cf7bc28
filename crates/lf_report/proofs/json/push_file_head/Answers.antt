use Rattle.std.proofs.Common.{◌≡◌, ◌++◌, codes, ap, sym, ◌∙◌}
use Rattle.std.proofs.lemmas.Result.{on_ok_weaker}
use Rattle.serde_json.specs.Data.{string}
use Rattle.serde_json.specs.Written.{compact_text}
use Rattle.lf_report.specs.Json.{refusal_data}
use Rattle.lf_report.specs.declared.report.FileReport.{FileReport}
use Rattle.lf_report.proofs.Appends.{appended_pair, appended_two}
use Rattle.lf_report.proofs.Floats.{refusal_floats}
use Rattle.std.proofs.lemmas.Option.{same_Some}
use Rattle.lf_report.proofs.json.push_file_head.Goals as goal

pub returns : goal.returns
returns c = λ it at.
    let same : c.get.result.now ≡ it = same_Some c.get.result.now it (sym c.get.ensures.value ∙ at) in
    let name = c.in_ok-push_text.ensures ∙ ap (λ l. c.args.text.now ++ (codes "{\"name\":" ++ compact_text (string l))) (c.as_str.ensures ∙ ap (λ (f : FileReport). f.name) same) in
    let refusal = c.in_ok-push_value.ensures (refusal_data it it.refusal) (c.in_ok-refusal.ensures it at) (refusal_floats it it.refusal) in
    let said = compact_text (refusal_data it it.refusal) in
    on_ok_weaker c.push-2.result
    (λ e. appended_pair c.args.text.now (codes "{\"name\":") (compact_text (string it.name)) (codes ",\"refusal\":" ++ (said ++ codes ",\"rules\":[")) name
    (appended_two c.push_text.new.text (codes ",\"refusal\":") (said ++ codes ",\"rules\":[") c.in_ok-push.ensures.ok (appended_two c.push.new.self said (codes ",\"rules\":[") refusal e)))
    c.push-2.ensures.ok
