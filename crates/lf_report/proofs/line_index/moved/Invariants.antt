use Rattle.std.proofs.Common.{◌≡◌}
use Rattle.lf_base.specs.Places.{line_at, column_at}
use Rattle.lf_report.proofs.line_index.moved.Given as goal

abbrev pub invariant-loop-k : goal.invariant-loop-k
invariant-loop-k l = record {
  line_is : l.line ≡ line_at l.bytes l.k;
  column_is : l.column ≡ column_at l.bytes l.k;
}
