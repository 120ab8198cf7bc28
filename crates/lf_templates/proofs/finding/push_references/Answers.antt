use Rattle.std.proofs.Common.{ap, sym, ◌∙◌, drop}
use Rattle.lf_templates.specs.Actions.{row_here}
use Rattle.lf_templates.proofs.RowLaws.{row_known}
use Rattle.lf_templates.proofs.finding.push_references.Goals as goal

pub reference_of-requires-clause-row : goal.reference_of-requires-clause-row
reference_of-requires-clause-row c =
    row_known c.args.text.now c.loop-i.inside c.loop-i.at (drop c.loop-i.i c.args.tokens.now) c.in-Some.row (ap (row_here c.loop-i.inside c.loop-i.at) (sym c.behind.ensures) ∙ sym c.row_here.ensures ∙ c.in-Some.is) c.loop-i.invariant.named c.loop-i.invariant.room
