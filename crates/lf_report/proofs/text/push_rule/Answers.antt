use Rattle.std.proofs.Common.{◌++◌, map, ap, ◌∙◌}
use Rattle.std.proofs.lemmas.Result.{on_ok_weaker}
use Rattle.lf_base.specs.Lines.{lines_text}
use Rattle.lf_report.specs.Text.{finding_line, verdict_lines}
use Rattle.lf_report.proofs.Appends.{appended_lines}
use Rattle.lf_report.proofs.text.push_rule.Goals as goal

pub returns : goal.returns
returns c = λ it e.
    let rule = c.args.rule.now in
    on_ok_weaker c.push_findings.result
    (λ f. appended_lines c.args.text.now (verdict_lines c.args.report.now it rule rule.verdicts) (map (finding_line it) rule.findings) (c.in_ok-push_verdicts.ensures it e)
    (f ∙ ap (λ l. c.push_verdicts.new.text ++ lines_text (map (finding_line it) l)) c.as_slice.ensures))
    (c.push_findings.ensures it e)
