use Rattle.std.proofs.Common.{ap}
use Rattle.lf_semantics.specs.Parts.{Sought}
use Rattle.std.proofs.Common.{◌∙◌}
use Rattle.lf_witness.specs.views.Absence.{has_two}
use Rattle.lf_witness.proofs.OpenAbsences.{opens_by}
use Rattle.lf_nodes.proofs.absence.leaves_open.Goals as goal

pub returns-else-sought : goal.returns-else-sought
returns-else-sought c =
    opens_by c.args.sought.now c.sought.inside.may_be_bare c.has_two.result (ap (λ (s : Sought). s.may_be_bare) c.sought.view_is) c.if-sought.false
    (c.has_two.ensures ∙ ap (λ (s : Sought). has_two s.matchers) c.sought.view_is)
