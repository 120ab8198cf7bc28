use Rattle.std.proofs.Common.{take}
use Rattle.lf_laws.specs.Gaining.{OfSome}
use Rattle.lf_checks.specs.views.Shown.{ListsAlone}
use Rattle.lf_checks.specs.views.TemplateCases.{IsOfTemplate}
use Rattle.lf_checks.proofs.alert_template.alert_template.Given as goal

abbrev pub invariant-loop-template : goal.invariant-loop-template
invariant-loop-template l = ListsAlone (OfSome (IsOfTemplate l.universe l.row) (take l.template-index l.rule.templates)) l.found.items
