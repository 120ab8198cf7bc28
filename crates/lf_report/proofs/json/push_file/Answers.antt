use Rattle.std.proofs.Common.{◌++◌, false, codes, map, ap, sym, ◌∙◌}
use Rattle.std.proofs.lemmas.Result.{on_ok_weaker}
use Rattle.lf_report.specs.Json.{rule_data, told_rules}
use Rattle.lf_report.specs.views.Pieces.{file_head, listed}
use Rattle.lf_report.proofs.Appends.{appended_two}
use Rattle.lf_report.proofs.Pieces.{file_json}
use Rattle.lf_report.proofs.json.push_file.Goals as goal

pub returns : goal.returns
returns c = λ it at.
    let report = c.args.report.now in
    let rules = listed false (map (rule_data report it) (told_rules report c.args.file it.refusal)) in
    on_ok_weaker c.push.result
    (λ e. appended_two c.args.text.now (file_head it) (rules ++ codes "]}") (c.in_ok-push_file_head.ensures it at) (appended_two c.push_file_head.new.text rules (codes "]}") (c.in_ok-push_told_rules.ensures it at) e)
    ∙ ap (λ l. c.args.text.now ++ l) (sym (file_json report c.args.file it)))
    c.push.ensures.ok
