use Rattle.lf_report.specs.views.LineIndex.{ArePositions, IsPosition}
use Rattle.lf_report.proofs.line_index.line_index_of.Given as goal

abbrev pub invariant-loop-k : goal.invariant-loop-k
invariant-loop-k l = record {
  at_is : IsPosition l.bytes l.at;
  positions_are : ArePositions l.bytes l.positions.items;
}
