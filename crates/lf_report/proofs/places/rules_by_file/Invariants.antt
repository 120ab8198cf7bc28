use Rattle.std.proofs.Common.{take}
use Rattle.lf_report.specs.views.Lookups.{AreGroups}
use Rattle.lf_report.proofs.places.rules_by_file.Given as goal

abbrev pub invariant-loop-k : goal.invariant-loop-k
invariant-loop-k l = AreGroups l.report.files l.report.rules (take l.k l.report.rules) l.groups.items
