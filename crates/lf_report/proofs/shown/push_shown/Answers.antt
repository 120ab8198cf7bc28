use Rattle.std.proofs.Common.{◌++◌, ap, sym, ◌∙◌}
use Rattle.std.specs.String.{string_bytes}
use Rattle.lf_report.proofs.ShownNames.{shown-other}
use Rattle.lf_report.proofs.shown.push_shown.Goals as goal

pub returns : goal.returns
returns c = c.in_ok-push.ensures.bytes ∙ ap (λ l. string_bytes c.args.text.now ++ l) (sym (shown-other c.args.c c.if-is_ascii_control.ensures.cases))
