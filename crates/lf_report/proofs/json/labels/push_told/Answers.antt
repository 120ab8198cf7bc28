use Rattle.std.proofs.Common.{◌++◌, false, codes, ap, sym, ◌∙◌}
use Rattle.std.proofs.lemmas.Result.{on_ok_weaker}
use Rattle.lf_report.specs.Json.{labels_items}
use Rattle.lf_report.specs.views.Pieces.{listed}
use Rattle.lf_report.proofs.Appends.{appended_two}
use Rattle.lf_report.proofs.Pieces.{list_json}
use Rattle.lf_report.proofs.json.labels.push_told.Goals as goal

pub returns : goal.returns
returns c =
    let report = c.args.report.now in
    let items = labels_items report report.universe c.args.verdicts.now in
    let start = c.args.text.now in
    on_ok_weaker c.push-2.result
    (λ e. appended_two start (codes "[") (listed false items ++ codes "]") c.in_ok-push.ensures.ok (appended_two c.push.new.self (listed false items) (codes "]") c.in_ok-push_each.ensures e)
    ∙ ap (λ l. start ++ l) (sym (list_json items)))
    c.push-2.ensures.ok
