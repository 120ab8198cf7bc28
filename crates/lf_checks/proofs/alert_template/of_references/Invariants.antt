use Rattle.std.proofs.Common.{take}
use Rattle.lf_laws.specs.Gaining.{OfSome}
use Rattle.lf_checks.specs.views.Shown.{ListsAlone}
use Rattle.lf_checks.specs.views.TemplateCases.{IsOfReference}
use Rattle.lf_checks.proofs.alert_template.of_references.Given as goal

abbrev pub invariant-loop-reference : goal.invariant-loop-reference
invariant-loop-reference l = ListsAlone (OfSome (IsOfReference l.universe l.row) (take l.reference-index l.references)) l.found.items
