use Rattle.std.proofs.Common.{◌++◌, ℕ, false, map, ap, sym, ◌∙◌}
use Rattle.std.proofs.lemmas.Result.{on_ok_weaker}
use Rattle.serde_json.specs.Written.{compact_text}
use Rattle.lf_base.specs.Places.{line_at, column_at}
use Rattle.lf_report.specs.Json.{finding_data, kind_name, labels_data}
use Rattle.lf_report.specs.views.Pieces.{listed, rule_end, rule_head, rule_kind}
use Rattle.lf_report.proofs.Appends.{appended_five}
use Rattle.lf_report.proofs.Pieces.{rule_json}
use Rattle.lf_report.proofs.json.rules.push_rule.Goals as goal

pub returns : goal.returns
returns c = λ it at.
    let report = c.args.report.now in
    let rule = c.args.rule.now in
    let start = c.args.text.now in
    let column = column_at it.source rule.name_span.start in
    let line = line_at it.source rule.name_span.start in
    let position = c.position_in-position.ensures it at in
    let head = c.in_ok-push_rule_head.ensures ∙ ap (λ (n : ℕ). start ++ rule_head n rule.empty) position.column_is in
    let findings = c.in_ok-push_findings.ensures it at ∙ ap (λ l. c.push_rule_head.new.text ++ listed false (map (finding_data it) l)) c.as_slice.ensures in
    let kind = c.in_ok-push_rule_kind.ensures ∙ ap (λ l. c.push_findings.new.text ++ rule_kind l) c.kind_name.ensures in
    on_ok_weaker c.push_rule_end.result
    (λ e. appended_five start (rule_head column rule.empty) (listed false (map (finding_data it) rule.findings)) (rule_kind (kind_name rule.alert)) (compact_text (labels_data report rule.verdicts))
    (rule_end line rule.name) head findings kind c.in_ok-push_labels.ensures (e ∙ ap (λ (n : ℕ). c.push_labels.new.text ++ rule_end n rule.name) position.line_is)
    ∙ ap (λ l. start ++ l) (sym (rule_json report it rule)))
    c.push_rule_end.ensures
