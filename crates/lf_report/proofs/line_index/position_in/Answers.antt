use Rattle.std.proofs.Common.{sym, subst}
use Rattle.lf_report.specs.views.LineIndex.{ArePositions}
use Rattle.lf_report.proofs.LineIndexes.{index_at, index_within}
use Rattle.lf_report.proofs.line_index.position_in.Goals as goal

pub index_at-requires : goal.index_at-requires
index_at-requires c = index_within c.args.report.now.files c.args.indexes.now c.args.file c.requires.indexes c.requires.file

pub position_of-requires : goal.position_of-requires
position_of-requires c =
    let found = index_at c.args.report.now.files c.args.indexes.now c.args.file c.index_at.result.now c.requires.indexes c.requires.file c.index_at.ensures in
    let here = found.1 c.get.result.now c.get.ensures.value in
    subst (λ bytes. ArePositions bytes c.as_slice.result.now) (sym c.as_slice-bytes.ensures) (subst (ArePositions c.get.result.now.source) (sym c.as_slice.ensures.value) here)
