use Rattle.std.proofs.Common.{◌∙◌}
use Rattle.lf_scalar.proofs.Zipped.{feeds-more}
use Rattle.lf_scalar.proofs.builder.feed.Goals as goal

pub loop-preserved : goal.loop-preserved
loop-preserved c = c.in_ok-push.ensures.ok ∙ feeds-more c.args.builder.now c.loop.builder c.loop.counter c.args.at c.loop.invariant
