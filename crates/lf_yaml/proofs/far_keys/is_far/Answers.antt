use Rattle.lf_yaml.proofs.FarKeys.{far-at}
use Rattle.lf_yaml.proofs.far_keys.is_far.Goals as goal

pub returns : goal.returns
returns c = far-at c.args.at c.args.colon c.args.text.now c.before-2.result.now c.is_too_far.result c.requires.order c.before-2.ensures (c.is_too_far.ensures c.args.at)
