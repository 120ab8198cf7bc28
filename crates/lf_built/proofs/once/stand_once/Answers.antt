use Rattle.lf_built.proofs.EachOnce.{few_once}
use Rattle.lf_built.proofs.once.stand_once.Goals as goal

pub returns-then-all-lt2 : goal.returns-then-all-lt2
returns-then-all-lt2 c = λ _. few_once c.args.all.now c.if-all-lt2.true
