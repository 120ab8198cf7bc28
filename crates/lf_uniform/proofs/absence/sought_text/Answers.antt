use Rattle.std.proofs.Common.{Some, sym, ◌∙◌, ap}
use Rattle.lf_semantics.specs.Parts.{Sought}
use Rattle.lf_trials.specs.Follow.{sought_text}
use Rattle.lf_uniform.proofs.absence.sought_text.Goals as goal

pub returns-in-Some : goal.returns-in-Some
returns-in-Some c =
    let label = c.args.label.now in
    c.equal_text.ensures ∙ ap (λ (s : Sought). sought_text label (Some s)) c.sought.view_is ∙ ap (sought_text label) (sym c.in-Some.is ∙ c.sought_in.ensures)
