use Rattle.std.proofs.Common.{◌∙◌}
use Rattle.std.specs.String.{string_bytes}
use Rattle.lf_gen.proofs.Written.{second_written}
use Rattle.lf_gen.proofs.generating.push_second.Goals as goal

pub returns : goal.returns
returns c = c.in_ok-write.ensures.bytes ∙ second_written (string_bytes c.args.text.now) c.args.rule
