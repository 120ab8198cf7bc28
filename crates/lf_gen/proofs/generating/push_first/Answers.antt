use Rattle.std.proofs.Common.{◌∙◌}
use Rattle.std.specs.String.{string_bytes}
use Rattle.lf_gen.proofs.Written.{first_written}
use Rattle.lf_gen.proofs.generating.push_first.Goals as goal

pub returns : goal.returns
returns c = c.in_ok-write.ensures.bytes ∙ first_written (string_bytes c.args.text.now) c.args.rule
