use Rattle.lf_pattern.proofs.FormLaws.{form_at}
use Rattle.lf_pattern.proofs.probe.Probe.new.Goals as goal

pub invariant_of-result-in-Other : goal.invariant_of-result-in-Other
invariant_of-result-in-Other c =
    let text = c.args.text.now in
    let other = form_at text c.args.form.now _ c.requires c.in-Other.is in
    (other.0, c.in_ok-matcher-in-Other.ensures text other.1 other.2 other.3)
