use Rattle.std.proofs.Common.{subst}
use Rattle.lf_report.specs.views.LineIndex.{ArePositions}
use Rattle.lf_report.proofs.LineIndexes.{indexes_push}
use Rattle.lf_report.proofs.line_index.line_indexes_of.Goals as goal

pub loop-file-preserved : goal.loop-file-preserved
loop-file-preserved c =
    indexes_push c.args.files.now c.loop-file.file-index c.file-item.result c.loop-file.indexes.items _ c.in_ok-line_index_of.field-0 c.loop-file-test.true c.file-item.is c.loop-file.invariant
    (subst (λ bytes. ArePositions bytes c.in_ok-line_index_of.field-0.positions.items) c.as_slice.ensures c.in_ok-line_index_of.ensures) c.in_ok-push.ensures.items
