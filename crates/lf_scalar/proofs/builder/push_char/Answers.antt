use Rattle.std.proofs.Common.{◌∙◌}
use Rattle.lf_scalar.proofs.Zipped.{given-more}
use Rattle.lf_scalar.proofs.builder.push_char.Goals as goal

pub loop-byte-preserved : goal.loop-byte-preserved
loop-byte-preserved c = c.in_ok-push.ensures.ok ∙ given-more c.args.builder.now c.loop-byte.builder c.args.at _ c.loop-byte.byte-index c.loop-byte-test.true c.loop-byte.invariant
