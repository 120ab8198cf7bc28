use Rattle.std.proofs.Common.{take}
use Rattle.lf_report.specs.views.LineIndex.{AreIndexed}
use Rattle.lf_report.proofs.line_index.line_indexes_of.Given as goal

abbrev pub invariant-loop-file : goal.invariant-loop-file
invariant-loop-file l = AreIndexed (take l.file-index l.files) l.indexes.items
