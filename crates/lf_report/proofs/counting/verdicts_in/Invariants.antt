use Rattle.std.proofs.Common.{◌≡◌, ◌≤◌, take, count_by}
use Rattle.lf_report.specs.views.Totals.{is_of}
use Rattle.lf_report.proofs.counting.verdicts_in.Given as goal

abbrev pub invariant-loop-verdict : goal.invariant-loop-verdict
invariant-loop-verdict l = record {
  count_is : l.count ≡ count_by (is_of l.kind) (take l.verdict-index l.verdicts);
  most : l.count ≤ l.verdict-index;
}
