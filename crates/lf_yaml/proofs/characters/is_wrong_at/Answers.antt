use Rattle.std.proofs.Common.{◌∙◌}
use Rattle.lf_yaml.proofs.AsciiCharacters.{ascii-wrong}
use Rattle.lf_yaml.proofs.characters.is_wrong_at.Goals as goal

pub returns-then-bytes-offset-lt128 : goal.returns-then-bytes-offset-lt128
returns-then-bytes-offset-lt128 c = c.is_control_at.ensures ∙ ascii-wrong c.args.bytes.now c.args.offset c.requires c.if-bytes-offset-lt128.true
