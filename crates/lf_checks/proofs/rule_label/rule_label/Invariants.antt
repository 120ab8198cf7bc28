use Rattle.std.proofs.Common.{take}
use Rattle.lf_laws.specs.Gaining.{OfSome}
use Rattle.lf_checks.specs.views.LabelCases.{IsOfLabel}
use Rattle.lf_checks.specs.views.Shown.{ListsAlone}
use Rattle.lf_checks.proofs.rule_label.rule_label.Given as goal

abbrev pub invariant-loop-label : goal.invariant-loop-label
invariant-loop-label l = ListsAlone (OfSome (IsOfLabel l.universe l.row) (take l.label-index l.rule.labels)) l.found.items
