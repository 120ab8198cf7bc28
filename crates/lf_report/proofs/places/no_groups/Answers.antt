use Rattle.lf_report.proofs.Groups.{groups_next}
use Rattle.lf_report.proofs.places.no_groups.Goals as goal

pub loop-file-preserved : goal.loop-file-preserved
loop-file-preserved c =
    groups_next c.as_slice-file-items.result.now c.loop-file._file-index c._file-item.result c.args.report.now.rules c.loop-file.groups.items _ c.new.result c.loop-file-test.true c._file-item.is c.loop-file.invariant
    c.new.ensures c.in_ok-push.ensures.items
