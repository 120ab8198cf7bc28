use Rattle.lf_judge.proofs.OneReport.{one_report}
use Rattle.lf_judge.proofs.judging.one_report.Goals as goal

pub returns : goal.returns
returns c = one_report
