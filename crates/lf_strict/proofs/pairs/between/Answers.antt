use Rattle.std.proofs.lemmas.Result.{IfOk-weaker}
use Rattle.lf_strict.proofs.ManySide.{pairs_combine}
use Rattle.lf_strict.proofs.pairs.between.Goals as goal

pub returns-in_default : goal.returns-in_default
returns-in_default c =
    IfOk-weaker c.paired.result _ _ (pairs_combine c.args.op c.args.matching.now c.args.left.now c.args.right.now c.in_default.not-And c.in_default.not-Or c.in_default.not-Unless) c.paired.ensures
