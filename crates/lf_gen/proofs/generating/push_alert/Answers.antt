use Rattle.std.proofs.Common.{◌++◌, ap, ◌∙◌}
use Rattle.std.specs.String.{string_bytes}
use Rattle.lf_gen.proofs.Written.{alert_written, annotations}
use Rattle.lf_gen.proofs.generating.push_alert.Goals as goal

pub returns : goal.returns
returns c = c.in_ok-push_str.ensures.bytes ∙ ap (λ l. l ++ annotations) c.in_ok-write.ensures.bytes ∙ alert_written (string_bytes c.args.text.now) c.args.rule
