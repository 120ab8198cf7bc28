use Rattle.std.proofs.Common.{[], take}
use Rattle.lf_report.specs.views.Lookups.{AreGroups}
use Rattle.lf_report.proofs.places.no_groups.Given as goal

abbrev pub invariant-loop-file : goal.invariant-loop-file
invariant-loop-file l = AreGroups (take l._file-index l._file-items) l.report.rules [] l.groups.items
