use Rattle.std.proofs.Common.{take}
use Rattle.lf_report.specs.views.Totals.{AreTotals}
use Rattle.lf_report.proofs.counting.Totals.of.Given as goal

abbrev pub invariant-loop-rule : goal.invariant-loop-rule
invariant-loop-rule l = AreTotals (take l.rule-index l.rules) l.totals
