use Rattle.std.proofs.lemmas.Result.{on_ok_weaker}
use Rattle.lf_report.proofs.Lines.{totals_told}
use Rattle.lf_report.proofs.text.push_totals.Goals as goal

pub returns-then-report : goal.returns-then-report
returns-then-report c =
    let first = rw (c.len.ensures, c.refused.ensures, c.len-2.ensures) at c.in_ok-push_totals_line.ensures in
    on_ok_weaker c.push_verdicts_line.result (λ e. totals_told c.args.report.now c.args.totals.now c.args.text.now c.push_totals_line.new.text _ c.requires c.if-report.true first e)
    c.push_verdicts_line.ensures
