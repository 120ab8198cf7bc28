use Rattle.std.proofs.Common.{subst}
use Rattle.std.proofs.lemmas.Result.{IfOk-weaker}
use Rattle.lf_witness.specs.Strict.{MadeApart, StrictlyEvaluates}
use Rattle.lf_witness.specs.StrictRuns.{IsStrictAnswer}
use Rattle.lf_strict.proofs.Answered.{from_some}
use Rattle.lf_strict.proofs.operand.operand_apart.Goals as goal

pub returns-in-Some : goal.returns-in-Some
returns-in-Some g c = λ W e given.
    IfOk-weaker c.made_apart.result _ _
    (λ o made. from_some (StrictlyEvaluates W e) (MadeApart (g.B.Becoming.becomes c.args.how.now)) c.in-Some.samples (subst (IsStrictAnswer W e) c.in-Some.is given) o made)
    c.made_apart.ensures
