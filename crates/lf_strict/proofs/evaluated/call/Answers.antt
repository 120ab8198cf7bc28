use Rattle.lf_strict.proofs.evaluated.call.Goals as goal

pub returns-clause-answer : goal.returns-clause-answer
returns-clause-answer c = λ W e given. c.in_ok-answer.ensures W e given
