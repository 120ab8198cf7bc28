use Rattle.lf_report.proofs.LineIndexes.{positions_push}
use Rattle.lf_report.proofs.line_index.line_index_of.Goals as goal

pub loop-k-preserved : goal.loop-k-preserved
loop-k-preserved c = record {
  at_is = c.position_from-at.ensures.position;
  positions_are = positions_push c.args.bytes.now c.loop-k.positions.items _ c.position_from-at.result c.loop-k.invariant.positions_are c.position_from-at.ensures.position c.in_ok-push.ensures.items;
}
