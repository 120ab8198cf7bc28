use Rattle.std.proofs.Common.{◌++◌, ap, ◌∙◌}
use Rattle.std.proofs.lemmas.Result.{on_ok_weaker}
use Rattle.lf_report.proofs.Appends.{finding_joined}
use Rattle.lf_report.proofs.text.lines.push_finding_line.Goals as goal

pub returns : goal.returns
returns c = on_ok_weaker c.push.result
    (λ e. e ∙ ap (λ l. c.args.text.now ++ l) (c.as_str.ensures.value ∙ c.in_ok-line.ensures.ok ∙ finding_joined c.args.place.now c.args.severity.now c.args.check.now c.args.said.now)) c.push.ensures.ok
