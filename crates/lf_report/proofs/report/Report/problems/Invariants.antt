use Rattle.std.proofs.Common.{◌≡◌, ◌-◌, ◌^◌, min, take, count_by}
use Rattle.lf_report.specs.Counts.{findings_of, is_problem}
use Rattle.lf_report.proofs.report.Report.problems.Given as goal

abbrev pub invariant-loop-rule : goal.invariant-loop-rule
invariant-loop-rule l = l.problems ≡ min (count_by is_problem (findings_of (take l.rule-index l.rule-items))) (2 ^ 64 - 1)
