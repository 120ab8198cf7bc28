use Rattle.std.proofs.Common.{◌≡◌, ◌++◌, ap, sym, ◌∙◌}
use Rattle.std.proofs.lemmas.Result.{on_ok_weaker}
use Rattle.serde_json.specs.Written.{compact_text}
use Rattle.lf_report.specs.Json.{rule_data}
use Rattle.std.proofs.lemmas.Option.{same_Some}
use Rattle.lf_report.proofs.json.push_rule_at.Goals as goal

pub returns : goal.returns
returns c = λ it this at here.
    let report = c.args.report.now in
    let rule = c.get-rule.result.now in
    let same : rule ≡ this = same_Some rule this (sym c.get-rule.ensures.value ∙ here) in
    on_ok_weaker c.push_rule.result (λ p. p ∙ ap (λ r. c.args.text.now ++ compact_text (rule_data report it r)) same) (c.push_rule.ensures it at)
