use Rattle.std.proofs.Common.{rules}
use Rattle.lf_checks.specs.views.TemplateCases.{IsOfReference}
use Rattle.lf_checks.proofs.Lists.{along_end, along_next}
use Rattle.lf_checks.proofs.alert_template.of_references.Goals as goal

pub loop-reference-preserved : goal.loop-reference-preserved
loop-reference-preserved c =
    along_next (IsOfReference c.args.universe.now c.args.row.now) c.args.references.now c.loop-reference.reference-index c.reference-item.result (search rules) (search rules) c.loop-reference.found.items
    c.in_ok-more.more.items c.append.new.self.items (search rules) c.loop-reference.invariant (search rules)

pub returns : goal.returns
returns c = along_end (IsOfReference c.args.universe.now c.args.row.now) c.args.references.now c.loop-reference.reference-index (search rules) c.loop-reference.found.items c.loop-reference.invariant
